use Rattle.std.proofs.Common.{◌≡◌, ℕ, List, length, vec_items, ap, arith}
use Rattle.std.proofs.lemmas.Result.{err_from_is_err_and}
use Rattle.text.specs.Hexadecimal.{hex_written}
use Rattle.text.proofs.Pairs.{hex_law}
use Rattle.script.proofs.arguments.key.Goals as goal

-- a key of this field would be the bytes read, which are not 32
pub returns-in_err-key : goal.returns-in_err-key
returns-in_err-key c =
    let p = err_from_is_err_and c.from_residual-in_err-key.result c.from_residual-in_err-key.ensures.1 in
    rw (p.1)
    (λ no-memory other.
    let read = c.in_ok-bytes.ensures in
    let field : hex_written (vec_items c.in_ok-bytes.bytes) ≡ hex_written other.0 = let a = read.1 in let b = other.2.1.1 in grind arith in
    let same = hex_law (vec_items c.in_ok-bytes.bytes) other.0 read.0 other.2.1.0 field in
    let long = ap (λ (l : List ℕ). length l) same in
    let held = c.as_slice.ensures.value in
    let size : length c.as_slice.result.now ≡ 32 = let count = other.2.0 in cc in
    let fits = c.try_from.ensures.0 size in
    let kept = c.map_err.ensures.variant in
    let failed = c.in_err-key.was in
    grind arith)
