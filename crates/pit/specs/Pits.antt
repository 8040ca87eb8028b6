-- The consoles of a pit, and what a line does to them.
use Rattle.std.specs.Prelude.{◌≡◌, ℕ, List, Some, None, vec_items, Option, slice_index_or, slice_set}
use Rattle.host.specs.declared.board.EitherBoard.{EitherBoard}
use Rattle.host.specs.declared.seals.EitherSeals.{EitherSeals}
use Rattle.console.specs.declared.request.FullRequest.{FullRequest}
use Rattle.pit.specs.Seats.{Plays}
use Rattle.pit.specs.declared.pit.Pit.{Pit}
use Rattle.pit.specs.declared.seat.Seat.{Seat}

-- the seat of a console, if it was opened
abbrev pub seat_at : Pit → ℕ → Option Seat
seat_at pit i = slice_index_or (vec_items pit.seats) i None

-- nothing but the seat of console i changed, which is now this one
abbrev pub SeatSet : Pit → ℕ → Option Seat → Pit → Type 0
SeatSet before i seat after =
    (vec_items after.seats ≡ slice_set (vec_items before.seats) i seat) × (after.n ≡ before.n) × (after.keys ≡ before.keys)

-- One line at console i: it is open, the line is entered at its seat and told, and no other seat changes.
pub record LinePlayed (before : Pit) (i : ℕ) (request : FullRequest EitherSeals EitherBoard) (out : List ℕ) (after : Pit) (text longer : List ℕ) : Type 0 where
  pub was : Seat
  pub left : Seat
  pub open_before : seat_at before i ≡ Some was
  pub others : SeatSet before i (Some left) after
  pub plays : Plays was request out left text longer
