use Rattle.std.proofs.Common.{◌<◌, length, ◌∙◌, arith}
use Rattle.ledger.proofs.Scans.{sweep_one, sweep_all}
use Rattle.ledger.proofs.slot.sweep.Goals as goal
use Rattle.ledger.proofs.slot.sweep.Goals.{then-is_spent, else-is_spent}

pub loop-slot-preserved : goal.loop-slot-preserved
loop-slot-preserved c =
    let l : c.loop-slot.slot-index < length c.loop-slot.shelf = omega arith in
    elim c.if-is_spent.branch [
      | then-is_spent w ↦
          w.shelf-is ∙ sweep_one _ _ _ _ _ c.loop-slot-test.true l w.if-is_spent.ensures c.loop-slot.invariant
      | else-is_spent w ↦
          w.shelf-is ∙ sweep_one _ _ _ _ _ c.loop-slot-test.true l w.if-is_spent.ensures c.loop-slot.invariant
    ]

pub returns : goal.returns
returns c = sweep_all _ _ _ _ c.loop-slot-test.false c.loop-slot.invariant
