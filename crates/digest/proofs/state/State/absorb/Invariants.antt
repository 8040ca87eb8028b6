use Rattle.std.proofs.Common.{◌≡◌, ℕ, List, length}
use Rattle.std.specs.Simd.{first_chunks}
use Rattle.digest.specs.Sha256.{absorb}
use Rattle.digest.proofs.state.State.absorb.Given as goal

abbrev pub invariant-loop-block : goal.invariant-loop-block
invariant-loop-block l =
    (bytes : List ℕ) → l.blocks ≡ first_chunks 64 (length l.blocks) bytes → l.v ≡ absorb l.block-index l.fn.self bytes
