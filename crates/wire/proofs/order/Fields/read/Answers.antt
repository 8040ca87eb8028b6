use Rattle.std.proofs.Common.{arith}
use Rattle.wire.proofs.Numbers.{array_2}
use Rattle.wire.proofs.order.Fields.read.Goals as goal

pub returns : goal.returns
returns c =
    let truck = array_2 2 c.args.bytes.now _ _ (omega arith) c.array_at-2.ensures c.from_be_bytes.ensures in
    let place = array_2 4 c.args.bytes.now _ _ (omega arith) c.array_at-3.ensures c.from_be_bytes-2.ensures in
    let amount = array_2 6 c.args.bytes.now _ _ (omega arith) c.array_at-4.ensures c.from_be_bytes-3.ensures in
    λ i. record { mark = c.array_at.ensures i; truck = truck i; place = place i; amount = amount i }
