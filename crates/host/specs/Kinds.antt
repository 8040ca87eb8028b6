-- Either kind, by what its end means.
use Rattle.std.specs.Prelude.{Bool, List}
use Rattle.parts.specs.Keyed.{key_bytes, keyed_table}
use Rattle.parts.specs.Meaning.{Keys}
use Rattle.parts.specs.Stamp.{stamp_table}
use Rattle.wire.specs.declared.order.Order.{Order}
use Rattle.boards.specs.Tally.{counts, tallied}
use Rattle.boards.specs.Trucks.{Roster, assigned, effective}
use Rattle.boards.specs.declared.tonnage.place.Place.{Place}
use Rattle.host.specs.Tables.{roster_of}
use Rattle.host.specs.declared.board.EitherBoard.{EitherBoard}
use Rattle.host.specs.declared.board.EitherBoard.TheVariants as board
use Rattle.host.specs.declared.seals.EitherSeals.{EitherSeals}
use Rattle.host.specs.declared.seals.EitherSeals.TheVariants as seals

abbrev pub keys_of : EitherSeals → Keys
keys_of (seals.Keyed s) = record { own = s.own; table = keyed_table (key_bytes s.keys) }
keys_of (seals.Stamp s) = record { own = s.own; table = stamp_table }

-- The state of either board.
pub data World : Type 0 where
  trucks : Roster → World
  tonnes : List Place → World

abbrev pub world_of : EitherBoard → World
world_of (board.Assignment b) = trucks (roster_of b)
world_of (board.Tonnage b) = tonnes b.places

abbrev pub either_rule : World → Order → World
either_rule (trucks w) o = trucks (assigned w o)
either_rule (tonnes w) o = tonnes (tallied w o)

abbrev pub either_effect : World → Order → Bool
either_effect (trucks w) o = effective w o
either_effect (tonnes w) o = counts w o
