use Rattle.std.proofs.Common.{Some, sym, ap, ◌∙◌}
use Rattle.std.proofs.lemmas.Result.{err_from_is_err_and}
use Rattle.rules.specs.Blocks.{is_held}
use Rattle.wire.specs.declared.key.Key.{Key}
use Rattle.console.proofs.Doing.{does_alone, does_as}
use Rattle.console.proofs.Steps.{proposal_refused, proposal_known, proposal_new}
use Rattle.console.proofs.console.Console.hear_proposal.Goals as goal

pub returns-in_err-check_proposal-clause-did : goal.returns-in_err-check_proposal-clause-did
returns-in_err-check_proposal-clause-did g c =
    let p = err_from_is_err_and c.from_residual.result c.from_residual.ensures.1 in
    rw p.1
    (does_alone (proposal_refused _ _ _ p.0 (sym c.in_err-check_proposal.ensures ∙ ap (λ e. Some e) (sym p.2))))

pub returns-then-is_held-clause-did : goal.returns-then-is_held-clause-did
returns-then-is_held-clause-did g c =
    does_alone (proposal_known _ _ _ (sym c.in_ok-check_proposal.ensures)
    (sym (ap (λ (k : Key). is_held k c.args.shelf.now) c.key.ensures) ∙ sym c.if-is_held.ensures))

pub returns-clause-did : goal.returns-clause-did
returns-clause-did g c =
    does_as (proposal_new _ _ _ (sym c.in_ok-check_proposal.ensures)
    (sym (ap (λ (k : Key). is_held k c.args.shelf.now) c.key.ensures) ∙ sym c.if-is_held.ensures))
    c.take_up.ensures.did
