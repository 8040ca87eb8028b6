use Rattle.std.proofs.Common.{length, vec_items}
use Rattle.text.specs.Splitting.{fields_left}
use Rattle.script.proofs.OrderLists.{Taken}
use Rattle.script.proofs.orders.orders.Given as goal

abbrev pub invariant-loop-more : goal.invariant-loop-more
invariant-loop-more l = Taken l.initial.more (fields_left l.initial.fields) (vec_items l.orders) l.more (fields_left l.fields)

abbrev pub decreases-loop-more : goal.decreases-loop-more
decreases-loop-more l = length (fields_left l.fields)
