use Rattle.std.proofs.Common.{◌≡◌, ◌/◌, ◌%◌, ◌<◌, length, vec_items, arith}
use Rattle.std.proofs.lemmas.Bool.Decides.{nat_tests}
use Rattle.std.proofs.ByRecursion.{All-push}
use Rattle.std.proofs.lemmas.Result.{err_from_is_err_and}
use Rattle.text.proofs.Pairs.{none_odd, pair_next, pair_none}
use Rattle.text.proofs.hex.read_pairs.Goals as goal

pub returns-then-not-is_empty : goal.returns-then-not-is_empty
returns-then-not-is_empty c = λ _.
    let e = c.is_empty.ensures in
    let h : length c.as_chunks.result.1.now ≡ length c.args.digits.now % 2 = c.as_chunks.ensures.back_len in
    let t = c.if-not-is_empty.true in
    none_odd c.args.digits.now (grind (arith, nat_tests))

pub returns-in_err-ok_or : goal.returns-in_err-ok_or
returns-in_err-ok_or c =
    let p = err_from_is_err_and c.from_residual.result c.from_residual.ensures.1 in
    let size : length c.as_chunks.result.0.now ≡ length c.args.digits.now / 2 = c.as_chunks.ensures.front_len in
    rw (p.1)
    λ _. pair_none (vec_items c.loop-high.bytes) c.args.digits.now c.loop-high.high-index (omega arith) c.loop-high.invariant.1 c.as_chunks.result.0.now c.as_chunks.ensures.front c.byte.result c.byte.ensures (grind arith)

pub loop-high-preserved : goal.loop-high-preserved
loop-high-preserved c =
    let size : length c.as_chunks.result.0.now ≡ length c.args.digits.now / 2 = c.as_chunks.ensures.front_len in
    let pushed = c.in_ok-push.ensures.items in
    let next = pair_next (vec_items c.loop-high.bytes) c.args.digits.now c.loop-high.high-index (omega arith) c.loop-high.invariant.1 c.as_chunks.result.0.now c.as_chunks.ensures.front c.byte.result c.byte.ensures c.in_ok-ok_or.field-0 (grind arith) in
    rw pushed (All-push (λ b. b < 256) _ _ c.loop-high.invariant.0 next.0, next.1)
