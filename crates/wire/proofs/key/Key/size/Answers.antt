use Rattle.std.proofs.Common.{◌≡◌, length, arith, rules}
use Rattle.wire.proofs.Sizes.{length-key}
use Rattle.wire.proofs.key.Key.size.Goals as goal

pub returns : goal.returns
returns c =
    let name : length c.args.self.now.name ≡ 32 = search rules in
    let all = length-key c.args.self.now name in
    record { bytes = omega arith; value = omega arith }
