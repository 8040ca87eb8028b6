use Rattle.std.proofs.Common.{◌≡◌, ℕ, ◌+◌, List, length, take, drop}
use Rattle.digest.specs.declared.state.State.{State}
use Rattle.digest.specs.Sha256.{K, rounds}
use Rattle.digest.proofs.state.State.eight_rounds.Given as goal

abbrev pub invariant-loop-k : goal.invariant-loop-k
invariant-loop-k l =
    (t : ℕ) (s : State) (words : List ℕ) → l.fn.self ≡ rounds t s words → l.ks ≡ take 8 (drop t K) → l.ws ≡ take 8 (drop t words) → l.v ≡ rounds (t + length l.yielded) s words
