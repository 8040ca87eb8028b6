use Rattle.std.proofs.Common.{sym}
use Rattle.console.proofs.Doing.{does_alone, does_as}
use Rattle.console.proofs.Steps.{vote_unheld, vote_forged, vote_known, vote_new}
use Rattle.console.proofs.console.Console.hear_vote.Goals as goal

pub returns-in_default-clause-did : goal.returns-in_default-clause-did
returns-in_default-clause-did g c =
    does_alone (vote_unheld _ _ _ (sym c.in_default.ensures))

pub returns-then-not-is_voters_seal-clause-did : goal.returns-then-not-is_voters_seal-clause-did
returns-then-not-is_voters_seal-clause-did g c =
    does_alone (vote_forged _ _ _ _ (sym c.in-Some.ensures) (sym c.if-not-is_voters_seal.ensures))

pub returns-then-has-clause-did : goal.returns-then-has-clause-did
returns-then-has-clause-did g c =
    does_alone (vote_known _ _ _ c.in-Some.block (sym c.in-Some.ensures) (sym c.if-not-is_voters_seal.ensures) (sym c.if-has.ensures))

pub returns-clause-did : goal.returns-clause-did
returns-clause-did g c =
    does_as (vote_new _ _ _ c.in-Some.block (sym c.in-Some.ensures) (sym c.if-not-is_voters_seal.ensures) (sym c.if-has.ensures))
    c.count_vote.ensures.did
