use Rattle.std.proofs.Common.{map, take, codes}
use Rattle.std.specs.Fmt.{IsPlainFormatter, HasWritten}
use Rattle.telling.specs.Lists.{led}
use Rattle.telling.specs.Messages.{order_told}
use Rattle.telling.proofs.orders.write_more.Given as goal

abbrev pub invariant-loop-order : goal.invariant-loop-order
invariant-loop-order g l = IsPlainFormatter l.initial.f → HasWritten g.W.Write.write_str_gives l.initial.f (led (codes ", ") (map order_told (take l.order-index l.orders))) l.f
