use Rattle.std.proofs.Common.{ℕ, ◌<◌, List, sym, ap, ◌∙◌, arith}
use Rattle.wire.proofs.Numbers.{be_4}
use Rattle.parts.specs.Image.{marks_in}
use Rattle.parts.proofs.Imaging.{image_back, image_is}
use Rattle.parts.proofs.store.image.ImageFromMarks.from.Goals as goal

pub returns : goal.returns
returns c =
    let m = c.args.marks in
    let is =
    c.new.ensures ∙
    image_is m _ _ _
    (c.to_be_bytes.ensures ∙ sym (be_4 m.lock))
    (c.to_be_bytes-2.ensures ∙ sym (be_4 m.voted))
    (c.to_be_bytes-3.ensures ∙ sym (be_4 m.proposed)) in
    let l : m.lock < 4294967296 = omega arith in
    let v : m.voted < 4294967296 = omega arith in
    let p : m.proposed < 4294967296 = omega arith in
    (is, ap (λ (bs : List ℕ). marks_in bs) is ∙ image_back m l v p)
