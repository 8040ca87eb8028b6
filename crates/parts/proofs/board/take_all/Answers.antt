use Rattle.std.proofs.Common.{sym, ◌∙◌}
use Rattle.parts.proofs.Feeding.{fed_more, fed-all}
use Rattle.parts.proofs.board.take_all.Goals as goal

pub loop-order-preserved : goal.loop-order-preserved
loop-order-preserved g c =
    fed_more g.B.Board.rule _ _ c.args.orders.now c.loop-order.order-index _ c.loop-order-test.true c.take.ensures.after ∙ c.loop-order.invariant

pub returns : goal.returns
returns g c =
    sym (fed-all g.B.Board.rule _ c.args.orders.now c.loop-order.order-index c.loop-order-test.false) ∙ c.loop-order.invariant
