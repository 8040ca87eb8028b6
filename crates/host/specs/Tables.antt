-- An assignment board that owns its table.
use Rattle.std.specs.Prelude.{vec_items}
use Rattle.boards.specs.Seen.{seen}
use Rattle.boards.specs.Trucks.{Roster}
use Rattle.boards.specs.declared.assignment.board.Assignment.{Assignment}
use Rattle.host.specs.declared.table.OwnLines.{OwnLines}

abbrev pub roster_of : Assignment OwnLines → Roster
roster_of b = seen (λ t. vec_items t.lines) b
