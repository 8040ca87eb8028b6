use Rattle.std.proofs.Common.{[], sym, ap, ◌∙◌}
use Rattle.std.proofs.lemmas.Bool.{eq-eqb, ne_eqb}
use Rattle.rules.specs.Tick.{take_turn, cast_vote}
use Rattle.console.specs.Seen.{seen}
use Rattle.console.proofs.Doing.{clocked_with, does_alone, does_as}
use Rattle.console.proofs.Steps.{tick_unfit, tick_old, tick_turn, tick_vote}
use Rattle.console.proofs.console.Console.tick.Goals as goal

pub returns-then-not-has_slots-clause-did : goal.returns-then-not-has_slots-clause-did
returns-then-not-has_slots-clause-did g c =
    ([], does_alone (tick_unfit [] _ _ (sym c.if-not-has_slots.ensures)))

pub returns-then-t-self-clause-did : goal.returns-then-t-self-clause-did
returns-then-t-self-clause-did g c =
    ([], does_alone (tick_old [] _ _ (sym c.if-not-has_slots.ensures) c.if-t-self.true))

pub returns-then-t-eq0-clause-did : goal.returns-then-t-eq0-clause-did
returns-then-t-eq0-clause-did g c =
    let s = seen g.T.Store.kept c.args.self.now c.args.shelf.now in (
      [],
      does_as (tick_turn [] s _ (sym c.if-not-has_slots.ensures) c.if-t-self.false (eq-eqb _ _ c.if-t-eq0.true)
          ∙ ap (λ k. take_turn (clocked_with s c.args.t k)) (sym c.candidate_in-self.ensures))
          (c.take_turn.ensures.did c.args.shelf.now),
    )

pub returns-else-t-eq0-clause-did : goal.returns-else-t-eq0-clause-did
returns-else-t-eq0-clause-did g c =
    let s = seen g.T.Store.kept c.args.self.now c.args.shelf.now in
    let seal = c.cast_vote.ensures.did.0 in (
      seal,
      does_as (tick_vote seal s _ (sym c.if-not-has_slots.ensures) c.if-t-self.false (ne_eqb _ _ c.if-t-eq0.false)
          ∙ ap (λ k. cast_vote seal (clocked_with s c.args.t k)) (sym c.candidate_in-self.ensures))
          c.cast_vote.ensures.did.1,
    )
