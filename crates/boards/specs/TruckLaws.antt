-- The assignment board's promises.
use Rattle.std.specs.Prelude.{◌≡◌, ℕ, ◌≤◌, true, List, length, Some, None, Option, ◌≢◌, slice_index_or}
use Rattle.shelf.specs.Laws.{Iff}
use Rattle.shelf.specs.Slots.{shown}
use Rattle.wire.specs.declared.order.Order.{Order}
use Rattle.wire.specs.declared.order.Order.TheVariants.{Send, Release}
use Rattle.boards.specs.declared.assignment.line.Line.{Line}
use Rattle.boards.specs.Trucks.{Roster, assigned, effective, line_of, truck_of, trucks_at, whereabouts}

-- the answer is yes exactly if the state changed
abbrev pub AssignmentTells : Type 0
AssignmentTells = (w : Roster) (order : Order) → Iff (effective w order ≡ true) (assigned w order ≢ w)

-- an order changes at most one line, and never the limit or the number of lines
abbrev pub OneLineAtMost : Type 0
OneLineAtMost =
    (w : Roster) (order : Order) →
    ((assigned w order).limit ≡ w.limit) ×
    (length (assigned w order).lines ≡ length w.lines) ×
    ((at : ℕ) ×
    ((k : ℕ) → (k ≢ at) → slice_index_or (assigned w order).lines k None ≡ slice_index_or w.lines k None))

-- a place that has no more trucks than the limit never gets more, and one that a truck was just sent to has no more
abbrev pub LimitHolds : Type 0
LimitHolds =
    (w : Roster) (order : Order) (place : ℕ) →
    trucks_at place w.lines ≤ w.limit → trucks_at place (assigned w order).lines ≤ w.limit

abbrev pub SentWithin : Type 0
SentWithin =
    (w : Roster) (truck place : ℕ) →
    effective w (Send truck place) ≡ true → trucks_at place (assigned w (Send truck place)).lines ≤ w.limit

-- a truck has at most one line
abbrev pub OneEach : List (Option Line) → Type 0
OneEach lines =
    (truck i j : ℕ) →
    shown truck_of (slice_index_or lines i None) ≡ Some truck → shown truck_of (slice_index_or lines j None) ≡ Some truck → i ≡ j

abbrev pub OneEachStays : Type 0
OneEachStays = (w : Roster) (order : Order) → OneEach w.lines → OneEach (assigned w order).lines

-- a truck that was sent is at the place, and one that was released has no line
abbrev pub Arrives : Type 0
Arrives =
    (w : Roster) (truck place : ℕ) →
    effective w (Send truck place) ≡ true → whereabouts truck (assigned w (Send truck place)).lines ≡ place

abbrev pub Leaves : Type 0
Leaves =
    (w : Roster) (truck : ℕ) →
    OneEach w.lines →
    effective w (Release truck) ≡ true → line_of truck (assigned w (Release truck)).lines ≡ None
