-- The tonnage board: the loads of each place.
use Rattle.std.specs.Prelude.{◌≡◌, ℕ, ◌+◌, ◌-◌, ◌/◌, ◌≤◌, Bool, true, false, cond, ◌&&◌, List, length, get_or, Some, None, Option, ◌≢◌, nat_le, slice_index_or, slice_set}
use Rattle.shelf.specs.Laws.{Iff}
use Rattle.wire.specs.Format.{well_formed, place_stands}
use Rattle.wire.specs.declared.order.Order.{Order}
use Rattle.wire.specs.declared.order.Order.TheVariants.{Send, Release, Load}
use Rattle.boards.specs.declared.tonnage.place.Place.{Place}
use Rattle.boards.specs.Bounds.{most, no_loads}

-- one load more
abbrev pub marked : Place → ℕ → Place
marked p amount = record { loads = p.loads + 1; tenths = p.tenths + amount }

-- place n is line n - 1
abbrev pub place_at : List Place → ℕ → Place
place_at places n = slice_index_or places (n - 1) no_loads

-- a load counts unless it would lift the place's tenths above the bound; nothing else counts
abbrev pub counts : List Place → Order → Bool
counts places (Send truck place) = false
counts places (Release truck) = false
counts places (Load truck place amount) =
    well_formed (Load truck place amount) && nat_le ((place_at places place).tenths + amount) most

-- the place's line with the load
abbrev pub loaded : List Place → Order → List Place
loaded places (Send truck place) = places
loaded places (Release truck) = places
loaded places (Load truck place amount) = slice_set places (place - 1) (marked (place_at places place) amount)

-- the rule of the board
abbrev pub tallied : List Place → Order → List Place
tallied places order = cond (counts places order) (loaded places order) places

-- what is known of a place: there is none but the 64
abbrev pub shown : List Place → ℕ → Option Place
shown places n = cond (place_stands n) (Some (place_at places n)) None

-- whole tonnes, half a tonne going up
abbrev pub read_out : ℕ → ℕ
read_out tenths = (tenths + 5) / 10

-- the read-out of a place
abbrev pub tonnes_at : List Place → ℕ → Option ℕ
tonnes_at places n = cond (place_stands n) (Some (read_out (place_at places n).tenths)) None

-- the answer is yes exactly if the state changed
abbrev pub TallyTells : Type 0
TallyTells =
    (places : List Place) (order : Order) →
    length places ≡ 64 →
    Iff (counts places order ≡ true) (tallied places order ≢ places)

-- a load changes the line of its place and no other; its place has one load more and its tenths
abbrev pub OneLine : Type 0
OneLine =
    (places : List Place) (truck place amount : ℕ) →
    length places ≡ 64 →
    counts places (Load truck place amount) ≡ true →
    (place_at (tallied places (Load truck place amount)) place ≡ marked (place_at places place) amount) ×
    ((k : ℕ) →
    (k ≢ place - 1) → slice_index_or (tallied places (Load truck place amount)) k no_loads ≡ slice_index_or places k no_loads)

-- no order lifts a place above the bound
abbrev pub InBound : Type 0
InBound =
    (places : List Place) (order : Order) →
    ((k : ℕ) → (get_or places k no_loads).tenths ≤ most) → (k : ℕ) → (get_or (tallied places order) k no_loads).tenths ≤ most

-- 1,005 tenths read 101 tonnes; 1,004 read 100
abbrev pub ReadOuts : Type 0
ReadOuts = (read_out 1005 ≡ 101) × (read_out 1004 ≡ 100)
