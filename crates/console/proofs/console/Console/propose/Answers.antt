use Rattle.std.proofs.Common.{◌≡◌, [], sym, ap, ◌∙◌}
use Rattle.rules.specs.Propose.{body_on_top, fits_shelf, propose_body}
use Rattle.wire.specs.Format.{body_key}
use Rattle.wire.specs.declared.body.Body.{Body}
use Rattle.console.specs.Seen.{owed, seen}
use Rattle.console.proofs.Doing.{does_alone, does_as}
use Rattle.console.proofs.Heard.{packed_some, packed_none}
use Rattle.console.proofs.Steps.{propose_unfit, propose_turn, propose_short, propose_bad, propose_full, propose_open, propose_refused, propose_done}
use Rattle.console.proofs.console.Console.propose.Goals as goal

pub returns-then-not-has_slots-clause-did : goal.returns-then-not-has_slots-clause-did
returns-then-not-has_slots-clause-did g c = (
  [],
  does_alone (propose_refused [] _ _ _ _ _ (propose_unfit _ _ _ _ (sym c.if-not-has_slots.ensures))),
)

pub returns-then-not-turn_stands-clause-did : goal.returns-then-not-turn_stands-clause-did
returns-then-not-turn_stands-clause-did g c = (
  [],
  does_alone (propose_refused [] _ _ _ _ _
      (propose_turn _ _ _ _ (sym c.if-not-has_slots.ensures) (sym (c.if-not-turn_stands.ensures c.args.shelf.now)))),
)

pub returns-then-out-lt-LONGEST-clause-did : goal.returns-then-out-lt-LONGEST-clause-did
returns-then-out-lt-LONGEST-clause-did g c = (
  [],
  does_alone (propose_refused [] _ _ _ _ _
      (propose_short _ _ _ _ (sym c.if-not-has_slots.ensures) (sym (c.if-not-turn_stands.ensures c.args.shelf.now))
      c.if-out-lt-LONGEST.true)),
)

pub returns-in_default-clause-did : goal.returns-in_default-clause-did
returns-in_default-clause-did g c = (
  [],
  does_alone (propose_refused [] _ _ _ _ _
      (propose_bad _ _ _ _ (sym c.if-not-has_slots.ensures) (sym (c.if-not-turn_stands.ensures c.args.shelf.now))
      c.if-out-lt-LONGEST.false (packed_none _ _ c.in_default.ensures))),
)

pub returns-then-not-has_place-clause-did : goal.returns-then-not-has_place-clause-did
returns-then-not-has_place-clause-did g c =
    let s = seen g.T.Store.kept c.args.self.now c.args.shelf.now in
    let p = packed_some _ _ _ c.in-Some.ensures in
    let body : ◌≡◌ {A = Body} (record { view = c.args.turn.view; parent = c.top_block.result; orders = c.in-Some.orders }) (body_on_top s (owed c.args.turn) c.args.orders.now) =
    λ i. record { view = c.args.turn.view; parent = c.top_block.ensures i; orders = p.1 i } in (
      [],
      does_alone (propose_refused [] s _ _ _ _
          (propose_full s _ _ _ (sym c.if-not-has_slots.ensures) (sym (c.if-not-turn_stands.ensures c.args.shelf.now))
          c.if-out-lt-LONGEST.false p.0 (sym (c.if-not-has_place.ensures ∙ ap (fits_shelf s) (c.key-key.ensures ∙ ap body_key body))))),
    )

pub returns-clause-did : goal.returns-clause-did
returns-clause-did g c =
    let s = seen g.T.Store.kept c.args.self.now c.args.shelf.now in
    let p = packed_some _ _ _ c.in-Some.ensures in
    let body : ◌≡◌ {A = Body} (record { view = c.args.turn.view; parent = c.top_block.result; orders = c.in-Some.orders }) (body_on_top s (owed c.args.turn) c.args.orders.now) =
    λ i. record { view = c.args.turn.view; parent = c.top_block.ensures i; orders = p.1 i } in
    let seal = c.propose_body.ensures.did.0 in (
      seal,
      does_as (propose_done seal s _ _ _
          (propose_open s _ _ _ (sym c.if-not-has_slots.ensures) (sym (c.if-not-turn_stands.ensures c.args.shelf.now))
          c.if-out-lt-LONGEST.false p.0 (sym (c.if-not-has_place.ensures ∙ ap (fits_shelf s) (c.key-key.ensures ∙ ap body_key body))))
          ∙ ap (λ (b : Body). propose_body b seal s) (sym body))
          c.propose_body.ensures.did.1,
    )
