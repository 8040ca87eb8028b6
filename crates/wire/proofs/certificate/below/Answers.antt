use Rattle.std.proofs.Common.{◌^◌, ◌<◌, ◌≤◌, arith, pow_mono, rules}
use Rattle.std.proofs.lemmas.Bool.Decides.{nat_tests}
use Rattle.wire.proofs.Signing.{below_none}
use Rattle.wire.proofs.certificate.below.Goals as goal

pub returns-then-n-ge16 : goal.returns-then-n-ge16
returns-then-n-ge16 c =
    let set : c.args.set < 2 ^ 16 = search rules in
    let more : 2 ^ 16 ≤ 2 ^ c.args.n = pow_mono c.if-n-ge16.true in
    grind (arith, nat_tests)

pub returns-else-n-ge16 : goal.returns-else-n-ge16
returns-else-n-ge16 c = below_none c.args.set c.args.n
