-- A table that is read with its limit.
use Rattle.boards.specs.declared.assignment.table.Table.{Table}
use Rattle.boards.specs.Trucks.{Roster}

abbrev pub roster : Table → Roster
roster t = record { limit = t.limit; lines = t.lines.now }
