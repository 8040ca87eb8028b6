-- What is known where a call was not refused, and of the block that is voted for.
use Rattle.std.proofs.Common.{◌≡◌, ℕ, ◌*◌, ◌<◌, ◌≤◌, Bool, true, false, cond, not, eqb, ltb, leb, List, Some, None, Option, sym, refl, ap, ◌∙◌}
use Rattle.std.proofs.lemmas.Bool.{and_parts, both_ways, ltb-true, ltb-false, leb-true, leb-false, eqb-true}
use Rattle.parts.specs.declared.store.Marks.{Marks}
use Rattle.wire.specs.Format.{body_key}
use Rattle.wire.specs.declared.key.Key.{Key}
use Rattle.wire.specs.declared.message.Proposal.{Proposal}
use Rattle.wire.specs.declared.order.Order.{Order}
use Rattle.rules.specs.declared.block.Block.{Block}
use Rattle.rules.specs.declared.refusal.Refusal.{Refusal}
use Rattle.rules.specs.declared.refusal.Refusal.TheVariants.{ShelfSize, OldTick, NotItsTurn, ShortOutput, BadOrders, ViewAhead, NotAboveHead, LeaderSeal, BadCertificate, ShelfFull}
use Rattle.rules.specs.Blocks.{On, held}
use Rattle.rules.specs.Hear.{proposes, certificate_stands, proposal_ground}
use Rattle.rules.specs.Pit.{leader, longest_proposal}
use Rattle.rules.specs.Propose.{body_on_top, turn_stands, orders_stand, fits_shelf, propose_ground}
use Rattle.rules.specs.State.{State, Table, shelf_fits}
use Rattle.rules.specs.Step.{Owed}
use Rattle.rules.specs.Tick.{tick_ground, candidate_block, may_vote}
use Rattle.rules.specs.Options.{absent}
use Rattle.rules.specs.Shelves.{held_on}

-- a ground that was not met, and those behind it
passes : (b : Bool) (r : Refusal) (rest : Option Refusal) → cond b (Some r) rest ≡ None → (b ≡ false) × (rest ≡ None)
passes true r rest e = absent r (sym e)
passes false r rest e = (refl, e)

holds : (b : Bool) → not b ≡ false → b ≡ true
holds true e = refl
holds false e = absurd (both_ways true e refl)

-- ---- tick

pub record TickStands (s : State) (t : ℕ) : Type 0 where
  pub fits : shelf_fits s ≡ true
  pub later : s.tick < t

pub tick_stands : (s : State) (t : ℕ) → tick_ground s t ≡ None → TickStands s t
tick_stands s t e =
    let a = passes (not (shelf_fits s)) ShelfSize _ e in
    let b = passes (leb t s.tick) OldTick None a.1 in
    record { fits = holds _ a.0; later = leb-false _ _ b.0 }

-- the candidate's block stands on the shelf, is of the console's view and has the candidate's name
pub candidate_on : (s : State) (b : Block) → candidate_block s ≡ Some b
    → On b s.ledger.shelf × (b.body.view ≡ s.view) × (s.candidate ≡ Some b.name)
candidate_on s b e = at s.candidate refl e
  where
    at : (o : Option (List ℕ)) → s.candidate ≡ o
        → elim o [ None ↦ None | Some name ↦ held (record { view = s.view; name = name }) s.ledger.shelf ] ≡ Some b
        → On b s.ledger.shelf × (b.body.view ≡ s.view) × (s.candidate ≡ Some b.name)
    at None f g = absent b g
    at (Some name) f g =
        let h = held_on (record { view = s.view; name = name }) s.ledger.shelf b g in
        (h.0, ap (λ (k : Key). k.view) h.1, f ∙ ap (λ (k : Key). Some k.name) (sym h.1))

pub may_vote_facts : (m : Marks) (view parent_view : ℕ) → may_vote m view parent_view ≡ true → (m.voted < view) × (m.lock ≤ parent_view)
may_vote_facts m view parent_view e =
    let a = and_parts (ltb m.voted view) _ e in
    (ltb-true _ _ a.0, leb-true _ _ a.1)

-- ---- propose

pub record ProposeStands (s : State) (owed : Owed) (orders : List Order) (space : ℕ) : Type 0 where
  pub fits : shelf_fits s ≡ true
  pub own_turn : owed.console ≡ s.seat.own
  pub at_tick : s.tick ≡ 2 * owed.view
  pub above_top : s.ledger.top.block.view < owed.view
  pub space_enough : longest_proposal ≤ space
  pub orders_good : orders_stand orders ≡ true
  pub room : fits_shelf s (body_key (body_on_top s owed orders)) ≡ true

pub propose_stands : (s : State) (owed : Owed) (orders : List Order) (space : ℕ) → propose_ground s owed orders space ≡ None
    → ProposeStands s owed orders space
unfolding propose_ground
propose_stands s owed orders space e =
    let a = passes (not (shelf_fits s)) ShelfSize _ e in
    let b = passes (not (turn_stands s owed)) NotItsTurn _ a.1 in
    let c = passes (ltb space longest_proposal) ShortOutput _ b.1 in
    let d = passes (not (orders_stand orders)) BadOrders _ c.1 in
    let f = passes (not (fits_shelf s (body_key (body_on_top s owed orders)))) ShelfFull None d.1 in
    let t = and_parts (eqb owed.console s.seat.own) _ (holds _ b.0) in
    let u = and_parts (eqb s.tick (2 * owed.view)) _ t.1 in
    record {
      fits = holds _ a.0;
      own_turn = eqb-true _ _ t.0;
      at_tick = eqb-true _ _ u.0;
      above_top = ltb-true _ _ u.1;
      space_enough = ltb-false _ _ c.0;
      orders_good = holds _ d.0;
      room = holds _ f.0;
    }

-- ---- hear

pub record ProposalStands (table : Table) (s : State) (p : Proposal) : Type 0 where
  pub not_ahead : p.body.view ≤ s.view
  pub above_head : s.ledger.head.view < p.body.view
  pub leader_seal : table (leader s.seat.n p.body.view) (proposes (body_key p.body)) p.seal ≡ true
  pub certificate : certificate_stands table s.seat.n p.certificate ≡ true
  pub room : fits_shelf s (body_key p.body) ≡ true

pub proposal_stands : (table : Table) (s : State) (p : Proposal) → proposal_ground table s p ≡ None → ProposalStands table s p
unfolding proposal_ground
proposal_stands table s p e =
    let a = passes (ltb s.view p.body.view) ViewAhead _ e in
    let b = passes (leb p.body.view s.ledger.head.view) NotAboveHead _ a.1 in
    let c = passes (not (table (leader s.seat.n p.body.view) (proposes (body_key p.body)) p.seal)) LeaderSeal _ b.1 in
    let d = passes (not (certificate_stands table s.seat.n p.certificate)) BadCertificate _ c.1 in
    let f = passes (not (fits_shelf s (body_key p.body))) ShelfFull None d.1 in
    record {
      not_ahead = ltb-false _ _ a.0;
      above_head = leb-false _ _ b.0;
      leader_seal = holds _ c.0;
      certificate = holds _ d.0;
      room = holds _ f.0;
    }
