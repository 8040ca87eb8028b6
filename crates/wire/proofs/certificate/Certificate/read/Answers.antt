use Rattle.std.proofs.Common.{ap, arith}
use lib.Count.{ones}
use Rattle.std.proofs.lemmas.List.{take_rest}
use Rattle.wire.specs.Read.{certificate_in}
use Rattle.wire.proofs.Numbers.{array_2}
use Rattle.wire.proofs.certificate.Certificate.read.Goals as goal

pub seals_in-seals-requires : goal.seals_in-seals-requires
seals_in-seals-requires c =
    let set = array_2 38 c.args.bytes.now _ _ (omega arith) c.array_at.ensures c.from_be_bytes-set.ensures in
    let n = ap ones set in
    omega arith

pub returns : goal.returns
unfolding certificate_in
returns c =
    let set = array_2 38 c.args.bytes.now _ _ (omega arith) c.array_at.ensures c.from_be_bytes-set.ensures in
    let rest = take_rest c.args.bytes.now 40 in
    cc
