use Rattle.std.proofs.Common.{sym, ◌∙◌}
use Rattle.telling.proofs.Taking.{trial_of_many, trial_of_ill, trial_of_fair}
use Rattle.telling.proofs.trial.write_trial.Goals as goal
use Rattle.telling.proofs.trial.write_trial.Goals.{then-orders-gt8-via-then-orders-gt8, then-orders-gt8-via-else-orders-gt8+then-not-well_formed}

pub returns-then-orders-gt8 : goal.returns-then-orders-gt8
returns-then-orders-gt8 c =
    elim c.then-orders-gt8.branch [
      | then-orders-gt8-via-then-orders-gt8 w ↦ rw (trial_of_many c.args.board c.args.orders.now w.if-orders-gt8.true) c.write.ensures.bytes
      | then-orders-gt8-via-else-orders-gt8+then-not-well_formed w ↦
          rw (trial_of_ill c.args.board c.args.orders.now w.if-orders-gt8.false (sym w.well_formed-else-orders-gt8.ensures ∙ w.if-not-well_formed.true)) c.write.ensures.bytes
    ]

pub returns-in-Assignment : goal.returns-in-Assignment
returns-in-Assignment c =
    rw (c.in-Assignment.is, trial_of_fair _ c.args.orders.now c.if-orders-gt8.false (sym c.if-not-well_formed.ensures)) c.try_assignment.ensures

pub returns-in-Tonnage : goal.returns-in-Tonnage
returns-in-Tonnage c =
    rw (c.in-Tonnage.is, trial_of_fair _ c.args.orders.now c.if-orders-gt8.false (sym c.if-not-well_formed.ensures)) c.try_tonnage.ensures
