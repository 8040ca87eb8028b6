-- The lines of a sheet.
use Rattle.std.specs.Prelude.{◌≡◌, ℕ, ◌-◌, cond, ◌⊎◌, List, ◌∷◌, length, take, Some, None, Ok, Err, Option, Result, ◌==◌, slice_index}
use Rattle.std.specs.List.{AllByRecursion}
use Rattle.text.specs.Splitting.{split}
use Rattle.script.specs.declared.command.Command.{Command}
use Rattle.script.specs.declared.fault.Fault.{Fault}
use Rattle.script.specs.Commands.{Says}
use Rattle.script.specs.Faults.{Refutes}

-- all but the newline, where the last byte is one
abbrev pub without_newline : List ℕ → List ℕ
without_newline line = cond (slice_index line (length line - 1) == 10) (take (length line - 1) line) line

-- spaces only, or nothing
abbrev pub Blank : List ℕ → Type 0
Blank line = AllByRecursion (λ c. c ≡ 32) line

-- it begins with `#`
abbrev pub Comment : List ℕ → Type 0
Comment line = (rest : List ℕ) × (line ≡ 35 ∷ rest)

-- what reading a line answers: nothing just at those that are passed over, else a command that the line says, or a fault that rules every command out
abbrev pub LineReadsAs : {C : Type 0} → (List (List ℕ) → C → Type 0) → List ℕ → Result (Option C) Fault → Type 0
LineReadsAs Said line (Ok None) = Blank line ⊎ Comment line
LineReadsAs Said line (Ok (Some c)) = ((Blank line ⊎ Comment line) → ⊥) × Said (split line) c
LineReadsAs {C} Said line (Err e) = ((Blank line ⊎ Comment line) → ⊥) × Refutes e ((c : C) × Said (split line) c)

abbrev pub LineReads : List ℕ → Result (Option Command) Fault → Type 0
LineReads line r = LineReadsAs Says line r
