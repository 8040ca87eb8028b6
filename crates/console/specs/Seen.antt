-- The state that a console is in, with its shelf, as the rules speak of it.
use Rattle.std.specs.Prelude.{ℕ, List}
use Rattle.ledger.specs.Ledgers.{ledger_of}
use Rattle.parts.specs.declared.store.Marks.{Marks}
use Rattle.rules.specs.Blocks.{Slot}
use Rattle.rules.specs.Step.{Owed}
use Rattle.rules.specs.State as state
use Rattle.console.specs.declared.answers.Look.{Look}
use Rattle.console.specs.declared.console.Console.{Console}
use Rattle.console.specs.declared.permit.Permit.{Permit}
use Rattle.console.specs.declared.turn.Turn.{Turn}

abbrev pub seat_of : Permit → ℕ → state.Seat
seat_of p slots = record { n = p.n; own = p.own; slots = slots }

-- `kept` says which numbers a store has.
abbrev pub seen : {S T B : Type 0} → (T → Marks) → Console S T B → List Slot → state.State
seen kept c xs =
    record {
      seat = seat_of c.permit c.slots;
      tick = c.tick;
      view = c.view;
      candidate = c.candidate;
      marks = c.marks;
      store = kept c.store;
      ledger = ledger_of c.progress xs;
    }

abbrev pub owed : Turn → Owed
owed t = record { console = t.console; view = t.view }

abbrev pub looked : Look → state.Seen
looked l = record { tick = l.tick; lock = l.lock; head = l.head; count = l.count }
