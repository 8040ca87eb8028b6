use Rattle.boards.proofs.Assigning.{one_line_at_most, limit_holds, sent_within, one_each_stays}
use Rattle.boards.proofs.assignment.board.assignment_keeps.Goals as goal

pub returns : goal.returns
returns c = record { line = one_line_at_most; limit = limit_holds; within = sent_within; each = one_each_stays }
