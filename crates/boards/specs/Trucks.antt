-- The assignment board: where each truck is sent.
use Rattle.std.specs.Prelude.{ℕ, Bool, false, cond, not, ◌&&◌, List, is_some, Some, None, Option, ◌==◌, nat_eq, nat_lt, slice_index_or, slice_set}
use Rattle.std.specs.List.{count_by}
use Rattle.shelf.specs.Slots.{find, shown, vacant}
use Rattle.wire.specs.Format.{well_formed}
use Rattle.wire.specs.declared.order.Order.{Order}
use Rattle.wire.specs.declared.order.Order.TheVariants.{Send, Release, Load}
use Rattle.boards.specs.declared.assignment.line.Line.{Line}
use Rattle.boards.specs.declared.assignment.line.Change.{Change}

-- the table, and the limit that holds at every place
pub record Roster : Type 0 where
  pub limit : ℕ
  pub lines : List (Option Line)

-- a line is found by its truck
abbrev pub truck_of : Line → ℕ
truck_of l = l.truck

-- the line that the truck has
abbrev pub line_of : ℕ → List (Option Line) → Option ℕ
line_of truck lines = find nat_eq (shown truck_of) truck lines

-- the lowest free line
abbrev pub free_line : List (Option Line) → Option ℕ
free_line lines = vacant (shown truck_of) lines

-- the line that a truck keeps or takes: its own, or else the lowest free one
abbrev pub or_else : Option ℕ → Option ℕ → Option ℕ
or_else None o = o
or_else (Some i) o = Some i

abbrev pub seat : ℕ → List (Option Line) → Option ℕ
seat truck lines = or_else (line_of truck lines) (free_line lines)

-- the place on a line, unless it is free
abbrev pub line_place : Option Line → Option ℕ
line_place None = None
line_place (Some l) = Some l.place

-- where a truck is, if it has a line
abbrev pub found_place : Option ℕ → List (Option Line) → Option ℕ
found_place None lines = None
found_place (Some i) lines = line_place (slice_index_or lines i None)

abbrev pub place_of : ℕ → List (Option Line) → Option ℕ
place_of truck lines = found_place (line_of truck lines) lines

-- where a truck is; 0, which is no place, if it has no line
abbrev pub or_nowhere : Option ℕ → ℕ
or_nowhere None = 0
or_nowhere (Some place) = place

abbrev pub whereabouts : ℕ → List (Option Line) → ℕ
whereabouts truck lines = or_nowhere (place_of truck lines)

-- is a truck on the line sent to the place?
abbrev pub is_at : ℕ → Option Line → Bool
is_at place None = false
is_at place (Some l) = l.place == place

-- how many trucks are at a place
abbrev pub trucks_at : ℕ → List (Option Line) → ℕ
trucks_at place lines = count_by (is_at place) lines

-- the limit's rule: does the place take one more truck?
abbrev pub takes_more : Roster → ℕ → Bool
takes_more w place = nat_lt (trucks_at place w.lines) w.limit

-- a line to be written, if there is one
abbrev pub writing : Option Line → Option ℕ → Option Change
writing l None = None
writing l (Some i) = Some (record { at = i; line = l })

-- a truck is sent unless it is there already, the place takes no more, or it finds no line
unfoldable pub sent : Roster → ℕ → ℕ → Option Change
sent w truck place =
    cond
    (not (whereabouts truck w.lines == place) && takes_more w place)
    (writing (Some (record { truck = truck; place = place })) (seat truck w.lines))
    None

-- a released truck frees its line
unfoldable pub released : Roster → ℕ → Option Change
released w truck = writing None (line_of truck w.lines)

-- what a well-formed order changes, if anything
abbrev pub called : Roster → Order → Option Change
called w (Send truck place) = sent w truck place
called w (Release truck) = released w truck
called w (Load truck place amount) = None

unfoldable pub change : Roster → Order → Option Change
change w order = cond (well_formed order) (called w order) None

abbrev pub written : Option Change → Roster → Roster
written None w = w
written (Some c) w = record { limit = w.limit; lines = slice_set w.lines c.at c.line }

-- the rule of the board
abbrev pub assigned : Roster → Order → Roster
assigned w order = written (change w order) w

-- whether an order has an effect
abbrev pub effective : Roster → Order → Bool
effective w order = is_some (change w order)
