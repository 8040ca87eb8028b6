use Rattle.std.proofs.Common.{◌≡◌, ◌*◌, length}
use Rattle.digest.specs.Sha256.{rounds}
use Rattle.digest.proofs.state.State.all_rounds.Given as goal

abbrev pub invariant-loop-ks : goal.invariant-loop-ks
invariant-loop-ks l = l.v ≡ rounds (8 * length l.yielded) l.fn.self l.fn.ws
