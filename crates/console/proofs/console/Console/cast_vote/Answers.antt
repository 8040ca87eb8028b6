use Rattle.std.proofs.Common.{[], sym}
use Rattle.console.proofs.Doing.{does_alone, does_as}
use Rattle.console.proofs.Steps.{cast_none, cast_not, cast_so}
use Rattle.console.proofs.console.Console.cast_vote.Goals as goal

pub returns-in_default-clause-did : goal.returns-in_default-clause-did
returns-in_default-clause-did g c =
    ([], does_alone (cast_none [] _ (sym c.in_default.ensures)))

pub returns-then-not-may_vote_on-clause-did : goal.returns-then-not-may_vote_on-clause-did
returns-then-not-may_vote_on-clause-did g c =
    ([], does_alone (cast_not [] _ _ (sym c.in-Some.ensures) (sym c.if-not-may_vote_on.ensures)))

pub returns-clause-did : goal.returns-clause-did
returns-clause-did g c = (
  c.vote_for.ensures.did.0,
  does_as (cast_so _ _ _ (sym c.in-Some.ensures) (sym c.if-not-may_vote_on.ensures)) c.vote_for.ensures.did.1,
)
