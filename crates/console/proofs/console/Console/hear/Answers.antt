use Rattle.std.proofs.Common.{[], sym, refl, ap, arith}
use Rattle.std.proofs.lemmas.Result.{err_from_is_err_and}
use Rattle.rules.specs.Step.{refused}
use Rattle.console.proofs.Doing.{does_alone, does_as, does_only}
use Rattle.console.proofs.Heard.{read_as, voter_below}
use Rattle.console.proofs.Steps.{hear_unfit, hear_unread, hear_as_proposal, hear_as_vote}
use Rattle.console.proofs.console.Console.hear.Goals as goal

pub returns-then-not-has_slots-clause-did : goal.returns-then-not-has_slots-clause-did
returns-then-not-has_slots-clause-did g c =
    ([], does_alone (hear_unfit _ _ _ (sym c.if-not-has_slots.ensures)))

pub hear_vote-requires : goal.hear_vote-requires
hear_vote-requires g c =
    let v =
    voter_below c.args.self.now.permit.n c.args.bytes.now c.in-Vote.vote
    (read_as _ _ _ _ c.in_ok-reading.ensures.message c.in-Vote.ensures) in
    omega (arith, c.args.self.now.permit.most)

pub returns-in-Proposal-clause-did : goal.returns-in-Proposal-clause-did
returns-in-Proposal-clause-did g c = (
  [],
  does_as (hear_as_proposal _ _ _ _ (sym c.if-not-has_slots.ensures) (read_as _ _ _ _ c.in_ok-reading.ensures.message c.in-Proposal.ensures))
      c.hear_proposal.ensures.did,
)

pub returns-in-Vote-clause-did : goal.returns-in-Vote-clause-did
returns-in-Vote-clause-did g c = (
  [],
  does_as (hear_as_vote _ _ _ _ (sym c.if-not-has_slots.ensures) (read_as _ _ _ _ c.in_ok-reading.ensures.message c.in-Vote.ensures))
      c.hear_vote.ensures.did,
)

pub returns-in_err-reading-clause-did : goal.returns-in_err-reading-clause-did
returns-in_err-reading-clause-did g c =
    let p = err_from_is_err_and c.from_residual.result c.from_residual.ensures.1 in
    rw p.1
    ((
      [],
      does_as (hear_unread _ _ _ _ (sym c.if-not-has_slots.ensures) (sym c.in_err-reading.ensures.message))
          (does_only (ap refused p.2) refl),
    ))
