use Rattle.boards.proofs.Assigning.{arrives, leaves}
use Rattle.boards.proofs.assignment.board.assignment_moves.Goals as goal

pub returns : goal.returns
returns c = record { arrives = arrives; leaves = leaves }
