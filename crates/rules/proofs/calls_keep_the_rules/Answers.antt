use Rattle.rules.proofs.Laws.{every_vote, no_vote_lost, counted_once, every_hand_over}
use Rattle.rules.proofs.calls_keep_the_rules.Goals as goal

pub returns : goal.returns
returns c = record { votes = every_vote; remembers = no_vote_lost; counts = counted_once; hands_over = every_hand_over }
