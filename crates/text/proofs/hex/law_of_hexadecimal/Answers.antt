use Rattle.text.proofs.Pairs.{hex_law}
use Rattle.text.proofs.hex.law_of_hexadecimal.Goals as goal

pub returns : goal.returns
returns c = hex_law
