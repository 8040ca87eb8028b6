use Rattle.std.proofs.Common.{arith}
use Rattle.std.proofs.lemmas.Bool.Decides.{nat_tests}
use Rattle.text.proofs.Cuts.{none_left_is}
use Rattle.text.proofs.fields.Fields.is_empty.Goals as goal

pub returns : goal.returns
returns c = let left = none_left_is (λ x. x.now) c.args.self.now.rest in let e = c.is_none.ensures in grind (arith, nat_tests)
