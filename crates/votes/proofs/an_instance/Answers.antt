use Rattle.votes.proofs.Small.{met}
use Rattle.votes.proofs.an_instance.Goals as goal

pub returns : goal.returns
returns c = record { met = met; agreement = c.chains_never_part.ensures.agreement }
