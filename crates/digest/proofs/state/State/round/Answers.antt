use Rattle.digest.specs.Sha256.{round}
use Rattle.digest.proofs.state.State.round.Goals as goal

pub returns : goal.returns
unfolding round
returns c = cc
