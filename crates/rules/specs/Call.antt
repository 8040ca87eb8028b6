-- A call as a value, and what it does at an open console.
use Rattle.std.specs.Prelude.{ℕ, List}
use Rattle.wire.specs.declared.order.Order.{Order}
use Rattle.rules.specs.Hear.{hear}
use Rattle.rules.specs.Propose.{propose}
use Rattle.rules.specs.State.{State, Seat, Table, opened}
use Rattle.rules.specs.Step.{opens, passed, Owed, Outcome, only}
use Rattle.rules.specs.Tick.{tick}

pub data Call : Type 0 where
  -- open over a shelf of so many slots
  opening : ℕ → Call
  ticking : ℕ → Call
  -- propose: the turn spent, the orders, the length of the output
  proposing : Owed → List Order → ℕ → Call
  passing : Owed → Call
  hearing : List ℕ → Call

-- The same seat over a shelf of so many slots.
abbrev pub seat_over : Seat → ℕ → Seat
seat_over seat slots = record { n = seat.n; own = seat.own; slots = slots }

-- One call at an open console. `table` is that of its seals, `seal` the one that sealing gives in this call.
-- Opening again is over the console's own store as it was left.
abbrev pub step : Table → List ℕ → State → Call → Outcome
step table seal s (opening slots) = only opens (opened (seat_over s.seat slots) s.store)
step table seal s (ticking t) = tick seal s t
step table seal s (proposing owed orders space) = propose seal s owed orders space
step table seal s (passing owed) = only passed s
step table seal s (hearing bytes) = hear table s bytes
