use Rattle.std.proofs.Common.{◌+◌, ◌-◌, ◌*◌, ◌≤◌, get_or, drop, arith}
use Rattle.std.proofs.ByRecursion.{All-get_or}
use Rattle.std.proofs.lemmas.List.{at_drop_all}
use Rattle.text.specs.Decimal.{value_after}
use Rattle.text.proofs.Numerals.{value_grows, value_step}
use Rattle.text.proofs.number.value_up_to.Goals as goal

pub next_value-requires : goal.next_value-requires
next_value-requires c =
    All-get_or (λ x. (48 ≤ x) × (x ≤ 57)) c.args.field.now c.loop-c.c-index 0 c.loop-c-test.true c.requires

pub returns-in_err-n : goal.returns-in_err-n
returns-in_err-n c =
    let step = value_step c.loop-c.n c.args.field.now c.loop-c.c-index c.loop-c-test.true in
    let grown = value_grows (c.loop-c.n * 10 + (get_or c.args.field.now c.loop-c.c-index 0 - 48)) (drop (c.loop-c.c-index + 1) c.args.field.now) in
    rw c.from_residual.ensures (λ low. c.in_err-n.ensures (omega arith))

pub loop-c-preserved : goal.loop-c-preserved
loop-c-preserved c =
    let step = value_step c.loop-c.n c.args.field.now c.loop-c.c-index c.loop-c-test.true in
    let next = c.in_ok-n.ensures in
    grind arith

pub returns : goal.returns
returns c = let end = at_drop_all (value_after c.loop-c.n) c.args.field.now c.loop-c.c-index c.loop-c-test.false in grind arith
