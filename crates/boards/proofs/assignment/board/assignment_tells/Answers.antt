use Rattle.boards.proofs.Assigning.{assignment_tells}
use Rattle.boards.proofs.assignment.board.assignment_tells.Goals as goal

pub returns : goal.returns
returns c = assignment_tells
