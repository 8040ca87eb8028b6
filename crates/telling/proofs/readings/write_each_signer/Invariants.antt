use Rattle.std.proofs.Common.{map, codes, decimal}
use Rattle.std.specs.Fmt.{IsPlainFormatter, HasWritten}
use Rattle.wire.specs.Format.{signed}
use Rattle.telling.specs.Lists.{led, passing}
use Rattle.telling.proofs.readings.write_each_signer.Given as goal

abbrev pub invariant-loop-console : goal.invariant-loop-console
invariant-loop-console g l = IsPlainFormatter l.initial.f → HasWritten g.W.Write.write_str_gives l.initial.f (led (codes " ") (map decimal (passing (signed l.signers.set) 0 l.console))) l.f
