-- A call at a console as a line of a shift sheet.
use Rattle.std.specs.Prelude.{◌≡◌, ℕ, List, Some, None, Option}
use Rattle.parts.specs.Image.{no_marks}
use Rattle.parts.specs.Meaning.{Keys}
use Rattle.parts.specs.declared.store.Marks.{Marks}
use Rattle.rules.specs.Call.{Call, opening}
use Rattle.rules.specs.State.{Seat, State}
use Rattle.rules.specs.Step.{Outcome, only, opens}
use Rattle.sheets.specs.Sheet.{Pit, Line, advance}
use Rattle.wire.specs.declared.order.Order.{Order}
use Rattle.console.specs.Does.{After, Does}

-- the line, with the seal that sealing gave in it
abbrev pub line_of : ℕ → Call → List ℕ → Line
line_of i call seal = record { console = i; call = call; seal = seal }

-- In every pit whose console i has these seals' table: for some seal the sheet's own account of the line is an outcome,
-- and what stands after the call is what it says.
abbrev pub Advances : {W : Type 0} → (W → Order → W) → Keys → State → Call → W → List ℕ → After W → Type 0
Advances rule keys s call w out after =
    (pit : Pit) (i : ℕ) → pit.table i ≡ keys.table →
    (seal : List ℕ) × (o : Outcome) × (advance pit (line_of i call seal) (Some s) ≡ Some o) × Does rule keys o seal w out after

-- The numbers are those of the console's own store: three zeros if it was never open, else as its last call left them.
abbrev pub OwnStore : Option State → Seat → Marks → Type 0
OwnStore None seat kept = kept ≡ no_marks
OwnStore (Some s) seat kept = (s.seat.n ≡ seat.n) × (s.seat.own ≡ seat.own) × (s.store ≡ kept)

-- In every pit of as many consoles: opening over the console's own store, the first time or again, is what the sheet
-- makes of an opening, and leaves this state.
abbrev pub Opens : Seat → Marks → State → Type 0
Opens seat kept after =
    (pit : Pit) (before : Option State) (seal : List ℕ) → pit.n ≡ seat.n → OwnStore before seat kept →
    advance pit (line_of seat.own (opening seat.slots) seal) before ≡ Some (only opens after)
