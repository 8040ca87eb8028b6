use Rattle.std.proofs.Common.{add-one}
use Rattle.std.proofs.lemmas.List.{take_rest}
use Rattle.text.proofs.Cuts.{split_at, split_whole}
use Rattle.text.proofs.fields.cut.Goals as goal

pub returns-in-Some : goal.returns-in-Some
returns-in-Some c = let here = c.in-Some.ensures in rw (take_rest, add-one) (split_at c.args.line.now c.in-Some.end here.0 here.1 here.2)

pub returns-in-None : goal.returns-in-None
returns-in-None c = split_whole c.args.line.now c.in-None.ensures
