use Rattle.std.proofs.Common.{arith, sym}
use Rattle.std.proofs.lemmas.List.{take_rest}
use Rattle.wire.specs.Read.{body_in}
use Rattle.wire.proofs.Numbers.{array_4, number_1}
use Rattle.wire.proofs.body.Body.read.Goals as goal

pub read-requires : goal.read-requires
read-requires c = let count = number_1 42 c.args.bytes.now (omega arith) in record { few = omega arith; enough = omega arith }

pub returns : goal.returns
unfolding body_in
returns c =
    let view = array_4 2 c.args.bytes.now _ _ (omega arith) c.array_at.ensures c.from_be_bytes.ensures in
    let count = sym (number_1 42 c.args.bytes.now (omega arith)) in
    let rest = take_rest c.args.bytes.now 43 in
    cc
