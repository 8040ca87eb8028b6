-- What stands after a call at a console: `kept` says which numbers a store has, `world` which state a board is in.
use Rattle.std.specs.Prelude.{ℕ, List}
use Rattle.parts.specs.declared.store.Marks.{Marks}
use Rattle.rules.specs.Blocks.{Slot}
use Rattle.rules.specs.Step.{Answer}
use Rattle.console.specs.Does.{After}
use Rattle.console.specs.Seen.{seen}
use Rattle.console.specs.declared.console.Console.{Console}

abbrev pub stands : {S T B W : Type 0} → (T → Marks) → (B → W) → Console S T B → List Slot → Answer → ℕ → List ℕ → After W
stands kept world c xs answer handed out =
    record { answer = answer; state = seen kept c xs; handed = handed; world = world c.board; output = out }
