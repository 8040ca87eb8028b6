use Rattle.std.proofs.Common.{◌≡◌, ◌<◌, length, arith}
use Rattle.parts.proofs.Sealing.{same_itself, stamp_is}
use Rattle.parts.proofs.seals.stamp.stamping.stamp.Goals as goal

pub returns : goal.returns
returns c =
    let long : length c.bytes.result ≡ 38 = omega arith in
    let low : c.args.signer < 256 = omega arith in
    let is = stamp_is c.args.signer c.args.statement.now c.bytes.result low long c.bytes.ensures in
    record { made = is; accepted = same_itself _ _ is }
