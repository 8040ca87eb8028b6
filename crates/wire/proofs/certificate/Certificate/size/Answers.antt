use Rattle.std.proofs.Common.{arith}
use Rattle.wire.proofs.Sizes.{length-certificate}
use Rattle.wire.proofs.certificate.Certificate.size.Goals as goal

pub returns : goal.returns
returns c =
    let all = length-certificate c.args.self.now in
    record { bytes = omega arith; signers = omega arith; most = omega arith }
