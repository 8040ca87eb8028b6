use Rattle.std.proofs.Common.{◌<◌, arith, rules}
use Rattle.wire.proofs.Signing.{before-all, packed_size}
use Rattle.wire.proofs.certificate.seals_size.Goals as goal

pub returns : goal.returns
returns c =
    let set : c.args.set < 65536 = search rules in
    let b = before-all c.args.set set in
    let p = packed_size c.args.set c.args.seals.now c.told-seals 16 (omega arith) in
    record { bytes = omega arith; ones = omega arith; most = omega arith }
