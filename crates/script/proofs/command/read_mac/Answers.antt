use Rattle.std.proofs.Common.{[], vec_items, refl}
use Rattle.std.proofs.lemmas.Result.{err_from_is_err_and}
use Rattle.script.proofs.command.read_mac.Goals as goal

pub returns-in_err-bytes : goal.returns-in_err-bytes
returns-in_err-bytes c =
    let p = err_from_is_err_and c.from_residual-in_err-bytes.result c.from_residual-in_err-bytes.ensures.1 in
    let key = c.in_ok-key.ensures.1.1 in
    rw (p.1, p.2)
    (λ memory other.
    let said = other.1 in
    let same = said.4.1.1 in
    let left = said.5.1 in
    c.in_err-bytes.ensures memory (vec_items said.1, [], (said.5.0, cc)))

pub returns : goal.returns
returns c =
    let taken = c.in_ok-bytes.ensures in
    let ended = c.in_ok-end.ensures in
    (c.in_ok-key.key, c.in_ok-bytes.bytes, _, refl, c.in_ok-key.ensures, (taken.0, cc))
