use Rattle.std.proofs.Common.{false, arith}
use Rattle.std.proofs.lemmas.Fmt.{hex_byte}
use Rattle.text.proofs.hex.write_byte.Goals as goal

pub returns : goal.returns
returns g c plain ok =
    rw (c.laid_out.ensures, c.in_radix.ensures, hex_byte false c.args.b (omega arith)) at c.write.ensures.writes plain ok
