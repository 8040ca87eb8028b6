use Rattle.liveness.proofs.Finish.{hand_over}
use Rattle.liveness.proofs.timely_stretches_hand_over.Goals as goal

pub returns : goal.returns
returns c = hand_over
