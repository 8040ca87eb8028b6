use Rattle.std.proofs.Common.{◌≡◌, ◌*◌, ◌++◌, drop, vec_items}
use Rattle.text.specs.Hexadecimal.{Bytes, hex_pairs}
use Rattle.text.proofs.hex.read_pairs.Given as goal

abbrev pub invariant-loop-high : goal.invariant-loop-high
invariant-loop-high l = Bytes (vec_items l.bytes) × (hex_pairs (vec_items l.bytes) ++ drop (2 * l.high-index) l.digits ≡ l.digits)
