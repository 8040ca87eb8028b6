use Rattle.votes.proofs.Weights.{share, suffice, counting, counted}
use Rattle.votes.proofs.quorums_share_a_sound_console.Goals as goal

pub returns : goal.returns
returns c = record { share = share; suffice = suffice; counting = counting; counted = counted }
