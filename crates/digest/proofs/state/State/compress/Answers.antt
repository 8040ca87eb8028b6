use Rattle.digest.specs.Sha256.{compress}
use Rattle.digest.proofs.state.State.compress.Goals as goal

pub returns : goal.returns
unfolding compress
returns c = cc
