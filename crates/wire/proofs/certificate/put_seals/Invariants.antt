use Rattle.std.proofs.Common.{◌≡◌, ◌+◌, ◌*◌}
use Rattle.wire.specs.Format.{packed_below}
use Rattle.wire.specs.Written.{Puts}
use Rattle.wire.proofs.Signing.{before}
use Rattle.wire.proofs.certificate.put_seals.Given as goal

abbrev pub invariant-loop-i : goal.invariant-loop-i
invariant-loop-i l =
    (l.out.at ≡ l.initial.out.at + 16 * before l.set l.i) ×
    Puts (packed_below l.i l.set l.seals) l.initial.out l.out
