use Rattle.std.proofs.Common.{◌≡◌, ◌-◌, ◌++◌, map, take, replicate}
use lib.Bits.{bit_xor}
use Rattle.digest.proofs.mac.tags.key_block.Given as goal

abbrev pub invariant-loop-i : goal.invariant-loop-i
invariant-loop-i l = l.block ≡ map (λ b. bit_xor b l.pad) (take l.i l.key) ++ replicate (64 - l.i) l.pad
