use Rattle.safety.proofs.Boards.{boards_show}
use Rattle.safety.proofs.boards_show_their_chains.Goals as goal

pub returns : goal.returns
returns g c = boards_show g.B.Board.rule
