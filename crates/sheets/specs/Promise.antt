-- The promise over whole shifts.
use Rattle.std.specs.Prelude.{◌≡◌, ℕ, ◌⊎◌, List, ◌++◌, length, Some}
use Rattle.parts.specs.Fed.{fed}
use Rattle.wire.specs.declared.body.Body.{Body}
use Rattle.wire.specs.declared.order.Order.{Order}
use Rattle.rules.specs.State.{State, look}
use Rattle.sheets.specs.Sheet.{Pit, Sound, Sheet, Moment, state_at, chain, all_orders, board_at, board_opened}
use Rattle.sheets.specs.Sound.{SoundSheet}
use Rattle.sheets.specs.Timely.{Stretch, Timely, HandsOver}

-- The one list is a beginning of the other.
abbrev pub Begins : List Body → List Body → Type 0
Begins xs ys = (zs : List Body) × (ys ≡ xs ++ zs)

-- Two chains never part: one of them is a beginning of the other.
abbrev pub NeverPart : List Body → List Body → Type 0
NeverPart xs ys = Begins xs ys ⊎ Begins ys xs

-- A board shows exactly its chain's orders: its state is the one it had at the opening that started the chain, moved
-- by each order of the chain once, in sequence.
abbrev pub BoardShows : (World : Type 0) → (World → Order → World) → Pit → ℕ → Sheet → Type 0
BoardShows World rule pit i lines =
    (given : Sheet → World) (none : World)
    → board_at rule given none pit i lines ≡ fed rule (board_opened given none i lines) (all_orders (chain pit i lines))

pub record Kept (World : Type 0) (rule : World → Order → World) (pit : Pit) (sheet : Sheet) : Type 0 where
  -- chains of sound consoles, after the same line or different ones, never part
  pub agree : (i j : ℕ) → Sound pit i → Sound pit j → (a b : Moment sheet)
      → NeverPart (chain pit i a.lines) (chain pit j b.lines)
  -- a chain is as long as look says
  pub counted : (i : ℕ) → Sound pit i → (a : Moment sheet) (s : State) → state_at pit i a.lines ≡ Some s
      → length (chain pit i a.lines) ≡ (look s).count
  -- after every line each board shows its chain
  pub shows : (i : ℕ) → Sound pit i → (a : Moment sheet) → BoardShows World rule pit i a.lines
  -- in a timely stretch every sound console hands over the block of its first view
  pub hands_over : (v : ℕ) (st : Stretch sheet v) (t : Timely pit v st) → (i : ℕ) → Sound pit i
      → HandsOver pit st i t.first.body

abbrev pub Promise : (World : Type 0) → (World → Order → World) → Type 0
Promise World rule = (pit : Pit) (sheet : Sheet) → SoundSheet pit sheet → Kept World rule pit sheet
