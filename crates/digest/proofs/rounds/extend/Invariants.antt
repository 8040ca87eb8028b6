use Rattle.std.proofs.Common.{◌≡◌, ℕ, List, length, take}
use Rattle.digest.specs.Sha256.{schedule}
use Rattle.digest.proofs.rounds.extend.Given as goal

abbrev pub invariant-loop-t : goal.invariant-loop-t
invariant-loop-t l =
    (length l.ws ≡ 64) ×
    ((block : List ℕ) → take 16 l.initial.ws ≡ schedule block 16 → take l.t l.ws ≡ schedule block l.t)
