use Rattle.std.proofs.Common.{ap, ◌∙◌}
use Rattle.wire.specs.Read.{order_in, order_of}
use Rattle.wire.proofs.order.Order.read.Goals as goal

pub returns : goal.returns
unfolding order_in
returns c = c.order.ensures ∙ ap order_of c.read.ensures
