use Rattle.std.proofs.Common.{arith}
use Rattle.wire.proofs.Numbers.{array_4}
use Rattle.wire.proofs.fields.key_at.Goals as goal

pub returns : goal.returns
returns c =
    let view = array_4 c.args.at c.args.bytes.now _ _ (omega arith) c.array_at.ensures c.from_be_bytes.ensures in
    λ i. record { view = view i; name = c.array_at-2.ensures i }
