use Rattle.witness.proofs.Reckoned.{sound_shift}
use Rattle.witness.proofs.a_sound_sheet_exists.Goals as goal

pub returns : goal.returns
returns c = sound_shift
