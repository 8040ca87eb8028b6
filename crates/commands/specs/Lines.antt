-- The lines of a sheet as commands.
use Rattle.std.specs.Prelude.{ℕ, List, Option, Result}
use Rattle.script.specs.Lines.{LineReadsAs}
use Rattle.script.specs.declared.fault.Fault.{Fault}
use Rattle.commands.specs.Commands.{Says}
use Rattle.commands.specs.declared.command.Command.{Command}

-- what reading a line answers: nothing just at those that are passed over, else a command that the line says, or a fault that rules every command out
abbrev pub LineReads : List ℕ → Result (Option Command) Fault → Type 0
LineReads line r = LineReadsAs Says line r
