use Rattle.text.proofs.Cuts.{split_law}
use Rattle.text.proofs.fields.law_of_fields.Goals as goal

pub returns : goal.returns
returns c = split_law
