use Rattle.std.proofs.Common.{ℕ, ◌+◌, ◌-◌, ◌*◌, length, get_or, take, drop, refl, sym, arith}
use Rattle.std.proofs.lemmas.Bool.Decides.{nat_tests}
use Rattle.wire.specs.Read.{proposal_fits}
use Rattle.wire.proofs.Numbers.{array_2, number_1}
use Rattle.wire.proofs.Proposals.{unfit_orders, unfit_short, unfit, fit}
use Rattle.wire.proofs.reading.lengths.Goals as goal

pub returns-then-bytes-lt43 : goal.returns-then-bytes-lt43
unfolding proposal_fits
returns-then-bytes-lt43 c = (refl, grind (arith, nat_tests))

pub returns-then-orders-gt8 : goal.returns-then-orders-gt8
returns-then-orders-gt8 c =
    (refl, unfit_orders c.args.bytes.now _ (sym (number_1 42 c.args.bytes.now (omega arith))) (omega arith))

pub returns-then-bytes-body : goal.returns-then-bytes-body
returns-then-bytes-body c =
    (refl, unfit_short c.args.bytes.now _ (sym (number_1 42 c.args.bytes.now (omega arith))) (omega arith))

pub returns-then-past-certificate : goal.returns-then-past-certificate
returns-then-past-certificate c =
    let body : ℕ = 43 + 8 * get_or c.args.bytes.now 42 0 in
    let set = array_2 38 (take (length c.args.bytes.now - body) (drop body c.args.bytes.now)) _ _ (omega arith) c.array_at.ensures c.from_be_bytes.ensures in
    (refl, unfit c.args.bytes.now _ (sym (number_1 42 c.args.bytes.now (omega arith))) (omega arith) (omega arith) _ _ set c.count.ensures.value c.count.ensures.few c.if-past-certificate.true)

pub returns : goal.returns
returns c =
    let body : ℕ = 43 + 8 * get_or c.args.bytes.now 42 0 in
    let set = array_2 38 (take (length c.args.bytes.now - body) (drop body c.args.bytes.now)) _ _ (omega arith) c.array_at.ensures c.from_be_bytes.ensures in
    fit c.args.bytes.now _ (sym (number_1 42 c.args.bytes.now (omega arith))) (omega arith) (omega arith) _ _ set c.count.ensures.value c.count.ensures.few c.if-past-certificate.false
