-- propose: the leader spends its turn on a block that builds on its top certificate.
use Rattle.std.specs.Prelude.{ℕ, ◌*◌, Bool, cond, not, ◌&&◌, ◌||◌, List, [], length, Some, None, Option, ◌==◌, nat_le, nat_lt}
use Rattle.wire.specs.Format.{body_key, body_name, pack, proposal_bytes}
use Rattle.wire.specs.Read.{all_well_formed}
use Rattle.wire.specs.declared.body.Body.{Body}
use Rattle.wire.specs.declared.key.Key.{Key}
use Rattle.wire.specs.declared.message.Proposal.{Proposal}
use Rattle.wire.specs.declared.order.Order.{Order}
use Rattle.wire.specs.declared.statement.Purpose.TheVariants as purpose
use Rattle.rules.specs.declared.refusal.Refusal.{Refusal}
use Rattle.rules.specs.declared.refusal.Refusal.TheVariants.{ShelfSize, NotItsTurn, ShortOutput, BadOrders, ShelfFull}
use Rattle.rules.specs.Blocks.{is_held, has_room}
use Rattle.rules.specs.Pit.{longest_proposal}
use Rattle.rules.specs.Settle.{Settled, fresh, placed, settle}
use Rattle.rules.specs.State.{State, Ledger, shelf_fits, with_ledger, with_candidate}
use Rattle.rules.specs.Step.{refused, proposal, Owed, Outcome, only}

-- The body that the turn's holder would propose.
abbrev pub body_on_top : State → Owed → List Order → Body
body_on_top s owed orders =
    record { view = owed.view; parent = s.ledger.top.block; orders = pack orders }

-- The turn is this console's, of this very tick, and the top certificate is of a lower view.
abbrev pub turn_stands : State → Owed → Bool
turn_stands s owed =
    (owed.console == s.seat.own)
    && (s.tick == 2 * owed.view && nat_lt s.ledger.top.block.view owed.view)

abbrev pub orders_stand : List Order → Bool
orders_stand orders = nat_le (length orders) 8 && all_well_formed orders

-- There is a slot for the block, or it needs none.
abbrev pub fits_shelf : State → Key → Bool
fits_shelf s k = is_held k s.ledger.shelf || has_room s.ledger.shelf

-- The first ground on which the proposal is refused; `space` is the length of the output.
unfoldable pub propose_ground : State → Owed → List Order → ℕ → Option Refusal
propose_ground s owed orders space =
    cond (not (shelf_fits s)) (Some ShelfSize)
    (cond (not (turn_stands s owed)) (Some NotItsTurn)
    (cond (nat_lt space longest_proposal) (Some ShortOutput)
    (cond (not (orders_stand orders)) (Some BadOrders)
    (cond (not (fits_shelf s (body_key (body_on_top s owed orders)))) (Some ShelfFull) None))))

-- The block is put on the shelf unless it is held.
abbrev pub placed_if_new : Body → Ledger → Ledger
placed_if_new body g =
    cond (is_held (body_key body) g.shelf) g (placed (fresh body (body_name body)) g)

-- The proposal of a body, sealed with the given seal.
unfoldable pub propose_body : Body → List ℕ → State → Outcome
propose_body body seal s =
    let message : Proposal = record { body = body; certificate = s.ledger.top; seal = seal } in
    let t : Settled = settle s.seat.n (placed_if_new body s.ledger) in
    record {
      answer = proposal (length (proposal_bytes message));
      state = with_candidate (with_ledger s t.ledger) (body_name body);
      handed = t.handed;
      written = proposal_bytes message;
      ballot = None;
      sealed = Some (record { purpose = purpose.Propose; block = body_key body });
      shown = Some body;
      relied = [];
    }

-- propose, with the seal that sealing gave if it was not refused.
unfoldable pub propose : List ℕ → State → Owed → List Order → ℕ → Outcome
propose seal s owed orders space =
    elim (propose_ground s owed orders space) [
      | Some r ↦ only (refused r) s
      | None ↦ propose_body (body_on_top s owed orders) seal s
    ]
