use Rattle.std.proofs.Common.{length}
use Rattle.digest.proofs.Seals.{Told}
use Rattle.digest.proofs.seal.differing.Given as goal

abbrev pub invariant-loop-x : goal.invariant-loop-x
invariant-loop-x l = Told l.bits (length l.yielded) l.a l.b
