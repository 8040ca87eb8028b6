use Rattle.std.proofs.Common.{◌≡◌, take}
use Rattle.digest.specs.Sha256.{schedule}
use Rattle.digest.proofs.rounds.load.Given as goal

abbrev pub invariant-loop-t : goal.invariant-loop-t
invariant-loop-t l = take l.t l.ws ≡ schedule l.block l.t
