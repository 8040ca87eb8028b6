-- The words of a board.
use Rattle.std.specs.Prelude.{ℕ, zero, suc, cond, not, ◌&&◌, List, [], ◌++◌, Some, None, codes, decimal, Option, ◌==◌}
use Rattle.std.specs.List.{flat_map}
use Rattle.wire.specs.Format.{place_stands}
use Rattle.boards.specs.Tally.{place_at, read_out}
use Rattle.boards.specs.declared.assignment.line.Line.{Line}
use Rattle.boards.specs.declared.tonnage.place.Place.{Place}

-- a line of an assignment board: truck@place, `-` if free
abbrev pub line_told : Option Line → List ℕ
line_told None = codes " -"
line_told (Some l) = codes " " ++ (decimal l.truck ++ (codes "@" ++ decimal l.place))

-- an assignment board: the lines of its table in sequence
abbrev pub assignment_told : List (Option Line) → List ℕ
assignment_told lines = codes "assignment" ++ flat_map line_told lines

-- a place of a tonnage board that has loads: place:loads/tenths/tonnes
abbrev pub place_told : List Place → ℕ → List ℕ
place_told places n =
    cond (place_stands n && not ((place_at places n).loads == 0))
    (codes " " ++ (decimal n ++ (codes ":" ++ (decimal (place_at places n).loads ++ (codes "/" ++ (decimal (place_at places n).tenths ++ (codes "/" ++ decimal (read_out (place_at places n).tenths))))))))
    []

-- the places up to number n
unfoldable pub places_up_to : ℕ → List Place → List ℕ
places_up_to zero places = []
places_up_to (suc n) places = places_up_to n places ++ place_told places (suc n)

-- a tonnage board: the places that have loads, of the 64
abbrev pub tonnage_told : List Place → List ℕ
tonnage_told places = codes "tonnage" ++ places_up_to 64 places
