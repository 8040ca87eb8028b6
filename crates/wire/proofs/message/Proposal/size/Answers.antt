use Rattle.std.proofs.Common.{◌≡◌, length, arith, rules}
use Rattle.wire.proofs.Sizes.{length-proposal}
use Rattle.wire.proofs.message.Proposal.size.Goals as goal

pub returns : goal.returns
returns c =
    let all = length-proposal c.args.self.now in
    let seal : length c.args.self.now.seal ≡ 16 = search rules in
    record { bytes = omega arith; counts = omega arith; most = omega arith }
