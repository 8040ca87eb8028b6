-- Shift sheets: every call at a sound console is a line; states and chains are reckoned from the lines.
use Rattle.std.specs.Prelude.{◌≡◌, ℕ, ◌<◌, Bool, true, false, cond, T, List, [], ◌∷◌, ◌++◌, Some, None, Option, ◌==◌}
use Rattle.parts.specs.Fed.{fed}
use Rattle.parts.specs.Image.{no_marks}
use Rattle.wire.specs.Format.{orders_of}
use Rattle.wire.specs.declared.body.Body.{Body}
use Rattle.wire.specs.declared.order.Order.{Order}
use Rattle.wire.specs.declared.statement.Statement.{Statement}
use Rattle.rules.specs.Call.{Call, opening, ticking, proposing, passing, hearing, step}
use Rattle.rules.specs.State.{State, Table, opened}
use Rattle.rules.specs.Step.{Answer, opens, Outcome, only, Vouched}

-- The consoles of a pit, numbered from 0 below n: which of them are sound, and what each one's seals accept.
pub record Pit : Type 0 where
  pub n : ℕ
  pub sound : ℕ → Bool
  pub table : ℕ → Table

-- A sound console of the pit.
abbrev pub Sound : Pit → ℕ → Type 0
Sound pit i = (i < pit.n) × T (pit.sound i)

-- One call at a console, with the seal that its sealing gave in it (if it sealed).
pub record Line : Type 0 where
  pub console : ℕ
  pub call : Call
  pub seal : List ℕ

-- A sheet has its newest line first, so what stands behind a line came before it.
abbrev pub Sheet : Type 0
Sheet = List Line

-- A console opens for the first time over a store of three zeros.
abbrev pub first_opening : Pit → ℕ → Call → Option Outcome
first_opening pit i (opening slots) =
    Some (only opens (opened (record { n = pit.n; own = i; slots = slots }) no_marks))
first_opening pit i (ticking t) = None
first_opening pit i (proposing owed orders space) = None
first_opening pit i (passing owed) = None
first_opening pit i (hearing bytes) = None

-- What a line does at its console: a step, or the first opening; any other call before that is none.
abbrev pub advance : Pit → Line → Option State → Option Outcome
advance pit l None = first_opening pit l.console l.call
advance pit l (Some s) = Some (step (pit.table l.console) l.seal s l.call)

-- The state that an outcome leaves; none leaves it as it was.
abbrev pub state_after : Option Outcome → Option State → Option State
state_after None before = before
state_after (Some o) before = Some o.state

-- The state of console i after the lines; none before its first opening.
unfoldable pub state_at : Pit → ℕ → Sheet → Option State
state_at pit i [] = None
state_at pit i (l ∷ ls) =
    cond (l.console == i) (state_after (advance pit l (state_at pit i ls)) (state_at pit i ls)) (state_at pit i ls)

-- What line l did, after the lines before it.
abbrev pub done : Pit → Line → Sheet → Option Outcome
done pit l earlier = advance pit l (state_at pit l.console earlier)

abbrev pub handed_in : Option Outcome → List Body
handed_in None = []
handed_in (Some o) = o.handed

abbrev pub answer_in : Option Outcome → Option Answer
answer_in None = None
answer_in (Some o) = Some o.answer

abbrev pub shown_in : Option Outcome → Option Body
shown_in None = None
shown_in (Some o) = o.shown

abbrev pub sealed_in : Option Outcome → Option Statement
sealed_in None = None
sealed_in (Some o) = o.sealed

abbrev pub relied_in : Option Outcome → List Vouched
relied_in None = []
relied_in (Some o) = o.relied

abbrev pub is_opening : Call → Bool
is_opening (opening slots) = true
is_opening (ticking t) = false
is_opening (proposing owed orders space) = false
is_opening (passing owed) = false
is_opening (hearing bytes) = false

-- The chain of console i: each opening starts an empty one, each later line adds the bodies that it hands over.
unfoldable pub chain : Pit → ℕ → Sheet → List Body
chain pit i [] = []
chain pit i (l ∷ ls) =
    cond (l.console == i)
    (cond (is_opening l.call) [] (chain pit i ls ++ handed_in (done pit l ls)))
    (chain pit i ls)

-- A line's place on a sheet, with what came later and what came before.
pub record Spot (sheet : Sheet) : Type 0 where
  pub later : Sheet
  pub line : Line
  pub earlier : Sheet
  pub here : sheet ≡ later ++ (line ∷ earlier)

-- What the line at a spot did.
abbrev pub did : (pit : Pit) {sheet : Sheet} → Spot sheet → Option Outcome
did pit p = done pit p.line p.earlier

-- A moment: the sheet up to some line.
pub record Moment (sheet : Sheet) : Type 0 where
  pub later : Sheet
  pub lines : Sheet
  pub here : sheet ≡ later ++ lines

-- The orders of bodies, in sequence.
unfoldable pub all_orders : List Body → List Order
all_orders [] = []
all_orders (b ∷ bs) = orders_of b.orders ++ all_orders bs

-- The board of console i after the lines: an opening takes a board in some state, `given` by the lines before it;
-- each later line moves it by the orders of the bodies that this line hands over. `none` stands before the first.
unfoldable pub board_at : {World : Type 0} → (World → Order → World) → (Sheet → World) → World → Pit → ℕ → Sheet → World
board_at rule given none pit i [] = none
board_at rule given none pit i (l ∷ ls) =
    cond (l.console == i)
    (cond (is_opening l.call)
    (given ls)
    (fed rule (board_at rule given none pit i ls) (all_orders (handed_in (done pit l ls)))))
    (board_at rule given none pit i ls)

-- The state that its board had at the last opening of console i.
unfoldable pub board_opened : {World : Type 0} → (Sheet → World) → World → ℕ → Sheet → World
board_opened given none i [] = none
board_opened given none i (l ∷ ls) =
    cond (l.console == i)
    (cond (is_opening l.call) (given ls) (board_opened given none i ls))
    (board_opened given none i ls)
