use Rattle.std.proofs.Common.{◌≡◌, codes, arith, rules}
use Rattle.std.proofs.lemmas.Slice.Eq.{text_from_reads}
use Rattle.script.proofs.command.new_board.Goals as goal

pub returns-in-assignment : goal.returns-in-assignment
returns-in-assignment c =
    let word : c.in_ok-word.word.now ≡ codes "assignment" = text_from_reads _ (codes "assignment") (omega arith) (search rules) in
    rw (c.in_ok-word.ensures.0, word) c.assignment.ensures
