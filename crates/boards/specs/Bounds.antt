-- What a place's record can hold.
use Rattle.std.specs.Prelude.{ℕ}
use Rattle.boards.specs.declared.tonnage.place.Place.{Place}

-- the most tenths of a tonne that a place can have
abbrev pub most : ℕ
most = 9999999999

-- a place that nothing came to
abbrev pub no_loads : Place
no_loads = record { loads = 0; tenths = 0 }
