use Rattle.std.proofs.Common.{length, arith}
use Rattle.std.proofs.lemmas.List.{drop-replicate}
use Rattle.std.proofs.lemmas.Bool.Decides.{nat_tests}
use Rattle.wire.specs.Format.{blank}
use Rattle.wire.proofs.orders.Orders.new.Goals as goal

pub returns : goal.returns
returns c = let e = drop-replicate (length c.args.orders.now) 8 blank in let h = c.copy_from_slice.ensures.after in grind (arith, nat_tests)
