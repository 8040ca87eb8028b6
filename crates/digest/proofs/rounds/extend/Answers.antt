use Rattle.std.proofs.Common.{arith, length-set}
use Rattle.digest.proofs.Steps.{schedule_step, word_mixed}
use Rattle.digest.proofs.rounds.extend.Goals as goal

pub loop-t-preserved : goal.loop-t-preserved
loop-t-preserved c = (
  simp length-set (omega arith),
  λ block e.
      schedule_step _ _ _ _ (omega arith) (word_mixed _ _ _ _ (omega arith) c.mixed_word.ensures)
      (c.loop-t.invariant.1 block e),
)
