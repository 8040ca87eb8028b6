-- tick: the clock moves on; an even tick may owe the console a turn, an odd one may make it vote.
use Rattle.std.specs.Prelude.{ℕ, Bool, cond, not, ◌&&◌, List, [], Some, None, Option, ◌==◌, nat_le, nat_lt}
use Rattle.parts.specs.declared.store.Marks.{Marks}
use Rattle.wire.specs.declared.key.Key.{Key}
use Rattle.wire.specs.declared.statement.Purpose.TheVariants as purpose
use Rattle.rules.specs.declared.block.Block.{Block}
use Rattle.rules.specs.declared.refusal.Refusal.{Refusal}
use Rattle.rules.specs.declared.refusal.Refusal.TheVariants.{ShelfSize, OldTick}
use Rattle.rules.specs.Blocks.{Slot, block_key, held}
use Rattle.rules.specs.Pit.{leader, view_of, for_proposing}
use Rattle.rules.specs.Settle.{Settled, enter, settle}
use Rattle.rules.specs.State.{State, shelf_fits, saved, with_ledger}
use Rattle.rules.specs.Step.{refused, turn, vote, nothing, Outcome, only}

-- The first ground on which tick t is refused.
abbrev pub tick_ground : State → ℕ → Option Refusal
tick_ground s t = cond (not (shelf_fits s)) (Some ShelfSize) (cond (nat_le t s.tick) (Some OldTick) None)

-- The clock at t. A new view drops the candidate.
abbrev pub clocked : State → ℕ → State
clocked s t =
    record {
      seat = s.seat;
      tick = t;
      view = view_of t;
      candidate = cond (view_of t == s.view) s.candidate None;
      marks = s.marks;
      store = s.store;
      ledger = s.ledger;
    }

-- The block that the console would vote for: of its view, with the candidate's name, if it is held.
abbrev pub candidate_block : State → Slot
candidate_block s =
    elim s.candidate [ None ↦ None | Some name ↦ held (record { view = s.view; name = name }) s.ledger.shelf ]

-- The voting rule: once in a view, in rising views, and never on a parent below the lock.
abbrev pub may_vote : Marks → ℕ → ℕ → Bool
may_vote m view parent_view = nat_lt m.voted view && nat_le m.lock parent_view

-- The three numbers after that vote.
abbrev pub marks_voted : Marks → ℕ → ℕ → Marks
marks_voted m view parent_view = record { lock = parent_view; voted = view; proposed = m.proposed }

abbrev pub marks_proposed : Marks → ℕ → Marks
marks_proposed m view = record { lock = m.lock; voted = m.voted; proposed = view }

-- The leader of the view takes its turn once.
abbrev pub may_take_turn : State → Bool
may_take_turn s = leader s.seat.n s.view == s.seat.own && nat_lt s.marks.proposed s.view

unfoldable pub take_turn : State → Outcome
take_turn s =
    cond (may_take_turn s)
    (only (turn (record { console = s.seat.own; view = s.view })) (saved s (marks_proposed s.marks s.view)))
    (only nothing s)

-- The vote for b, sealed with the given seal: the numbers are saved, the vote enters the own tally.
unfoldable pub vote_for : Block → List ℕ → State → Outcome
vote_for b seal s =
    let k : Key = block_key b in
    let t : Settled = settle s.seat.n (enter s.seat.n k s.seat.own seal s.ledger) in
    record {
      answer = vote (record { block = k; voter = s.seat.own; seal = seal });
      state = with_ledger (saved s (marks_voted s.marks s.view b.body.parent.view)) t.ledger;
      handed = t.handed;
      written = [];
      ballot = Some b.body;
      sealed = Some (record { purpose = purpose.Vote; block = k });
      shown = None;
      relied = [];
    }

unfoldable pub cast_vote : List ℕ → State → Outcome
cast_vote seal s =
    elim (candidate_block s) [
      | None ↦ only nothing s
      | Some b ↦
          cond (may_vote s.marks s.view b.body.parent.view) (vote_for b seal s) (only nothing s)
    ]

-- tick t, with the seal that sealing gave if the console voted.
unfoldable pub tick : List ℕ → State → ℕ → Outcome
tick seal s t =
    elim (tick_ground s t) [
      | Some r ↦ only (refused r) s
      | None ↦ cond (for_proposing t) (take_turn (clocked s t)) (cast_vote seal (clocked s t))
    ]
