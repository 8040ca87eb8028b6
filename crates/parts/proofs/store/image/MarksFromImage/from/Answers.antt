use Rattle.std.proofs.Common.{◌≡◌, get_or, arith}
use Rattle.parts.proofs.Imaging.{marks_read}
use Rattle.parts.proofs.store.image.MarksFromImage.from.Goals as goal

pub returns : goal.returns
returns c =
    let bs = c.args.image.bytes in
    let s : get_or bs 0 0 ≡ 83 = omega arith in
    let t : get_or bs 1 0 ≡ 84 = omega arith in
    marks_read bs _ _ _ (omega arith) s t c.from_be_bytes.ensures c.from_be_bytes-2.ensures c.from_be_bytes-3.ensures
