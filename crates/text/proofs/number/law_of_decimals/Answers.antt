use Rattle.text.proofs.Numerals.{decimal_law}
use Rattle.text.proofs.number.law_of_decimals.Goals as goal

pub returns : goal.returns
returns c = decimal_law
