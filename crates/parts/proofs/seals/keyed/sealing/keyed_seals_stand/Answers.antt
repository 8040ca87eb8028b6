use Rattle.parts.proofs.Sealing.{keyed_law}
use Rattle.parts.proofs.seals.keyed.sealing.keyed_seals_stand.Goals as goal

pub returns : goal.returns
returns c = keyed_law
