-- The ledger that a console's progress and its shelf make up.
use Rattle.std.specs.Prelude.{List}
use Rattle.rules.specs.Blocks.{Slot}
use Rattle.rules.specs.State.{Ledger}
use Rattle.ledger.specs.declared.progress.Progress.{Progress}

abbrev pub ledger_of : Progress → List Slot → Ledger
ledger_of p xs = record { shelf = xs; top = p.top; head = p.head; count = p.count }
