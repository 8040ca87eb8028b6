use Rattle.std.proofs.Common.{refl}
use Rattle.script.proofs.Sequence.{taken}
use Rattle.commands.proofs.read.read_hear.Goals as goal

pub returns : goal.returns
returns c = taken _ _ c.in_ok-console.ensures (taken _ _ c.in_ok-bytes.ensures (c.in_ok-end.ensures, refl))
