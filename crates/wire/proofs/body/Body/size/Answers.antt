use Rattle.std.proofs.Common.{length, sym, ap, ◌∙◌, arith}
use Rattle.wire.proofs.Sizes.{length_body}
use Rattle.wire.proofs.body.Body.size.Goals as goal

pub returns : goal.returns
returns c =
    let n = ap length c.as_slice.ensures.orders in
    let all = length_body c.args.self.now (sym c.size.ensures.bytes ∙ c.size.ensures.value) in
    let few = c.as_slice.ensures.few in
    record { bytes = omega arith; orders = omega arith; most = omega arith }
