-- An assignment board by its table and its limit.
use Rattle.std.specs.Prelude.{List, Option}
use Rattle.boards.specs.declared.assignment.board.Assignment.{Assignment}
use Rattle.boards.specs.declared.assignment.line.Line.{Line}
use Rattle.boards.specs.Trucks.{Roster}

-- `items` says which lines a table has
abbrev pub seen : {L : Type 0} → (L → List (Option Line)) → Assignment L → Roster
seen items board = record { limit = board.limit; lines = items board.table }
