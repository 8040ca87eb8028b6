use Rattle.script.proofs.OrderLists.{orders_more, orders_all}
use Rattle.script.proofs.orders.orders.Goals as goal

pub loop-more-preserved : goal.loop-more-preserved
loop-more-preserved c =
    orders_more _ _ _ _ _ c.loop-more.invariant _ _ _ _ c.loop-more-test.true c.in_ok-next.ensures c.in_ok-push.ensures.items

pub returns : goal.returns
returns c = orders_all _ _ _ _ _ c.loop-more.invariant c.is_empty-more.ensures c.loop-more-test.false c.in_ok-end.ensures
