use Rattle.votes.proofs.Agree.{agreement, ancestry}
use Rattle.votes.proofs.Grow.{lasting}
use Rattle.votes.proofs.chains_never_part.Goals as goal

pub returns : goal.returns
returns g c =
    let B = g.K.Kind.blocks in
    record { agreement = agreement B; ancestry = ancestry B; lasting = lasting B }
