-- What is said where a run ends early.
use Rattle.std.specs.Prelude.{ℕ, List, codes}
use Rattle.pit.specs.Troubles.{trouble_told}
use Rattle.script.specs.Faults.{told}
use Rattle.shift.specs.declared.stop.Stop.{Stop}
use Rattle.shift.specs.declared.stop.Stop.TheVariants.{Line, Pit, Input, Output}

abbrev pub stop_told : Stop → List ℕ
stop_told (Line fault) = told fault
stop_told (Pit trouble) = trouble_told trouble
stop_told Input = codes "the input cannot be read"
stop_told Output = codes "the answer cannot be written"
