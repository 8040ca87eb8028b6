use Rattle.std.proofs.Common.{sym, ◌∙◌}
use Rattle.parts.proofs.Feeding.{fed_more, fed-all}
use Rattle.telling.proofs.Telling.{effect-more, effects-all}
use Rattle.telling.proofs.trial.take_each.Goals as goal

pub loop-order-preserved : goal.loop-order-preserved
loop-order-preserved g c =
    let rule = g.B.Board.rule in
    let taken = c.loop-order-test.true in (
      effect-more rule g.B.Board.effect _ _ _ _ _ c.args.orders.now c.loop-order.order-index _ c.take-effect.result taken c.take-effect.ensures.answer c.take-effect.ensures.after c.in_ok-write.ensures.bytes c.loop-order.invariant.0,
      fed_more rule _ _ c.args.orders.now c.loop-order.order-index _ taken c.take-effect.ensures.after ∙ c.loop-order.invariant.1,
    )

pub returns : goal.returns
returns g c =
    let rule = g.B.Board.rule in
    let left = c.loop-order-test.false in
    record {
      effects = effects-all rule g.B.Board.effect _ _ _ c.args.orders.now c.loop-order.order-index left c.loop-order.invariant.0;
      board = sym (fed-all rule _ c.args.orders.now c.loop-order.order-index left) ∙ c.loop-order.invariant.1;
    }
