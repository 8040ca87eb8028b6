use Rattle.std.proofs.Common.{◌≡◌}
use Rattle.wire.proofs.Signing.{parts_from, spread}
use Rattle.wire.proofs.certificate.seals_in.Given as goal

abbrev pub invariant-loop-i : goal.invariant-loop-i
invariant-loop-i l = record { parts : l.parts.rest.now ≡ parts_from l.set l.bytes l.i; seals : l.seal-items ≡ spread l.set l.bytes l.i }
