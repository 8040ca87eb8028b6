use Rattle.witness.proofs.Reckoned.{timely_shift}
use Rattle.witness.proofs.a_timely_stretch_exists.Goals as goal

pub returns : goal.returns
returns c = timely_shift
