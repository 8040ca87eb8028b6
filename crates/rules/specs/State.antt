-- What a console keeps, and what opening makes of it.
use Rattle.std.specs.Prelude.{ℕ, Bool, ◌&&◌, List, length, replicate, Some, None, Option, ◌==◌}
use Rattle.wire.specs.declared.key.Key.{Key}
use Rattle.wire.specs.declared.certificate.Certificate.{Certificate}
use Rattle.wire.specs.declared.statement.Statement.{Statement}
use Rattle.wire.specs.Format.{origin, origin_certificate}
use Rattle.parts.specs.declared.store.Marks.{Marks}
use Rattle.rules.specs.Blocks.{Slot}
use Rattle.rules.specs.Pit.{shelf_size}

-- Which seals are accepted: signer, statement and seal, yes or no.
abbrev pub Table : Type 0
Table = ℕ → Statement → List ℕ → Bool

-- A console's place in its pit, fixed from opening on.
pub record Seat : Type 0 where
  -- consoles in the pit
  pub n : ℕ
  -- the console's own number
  pub own : ℕ
  -- slots of its shelf, counted at opening
  pub slots : ℕ

-- Blocks and what is known of them.
pub record Ledger : Type 0 where
  pub shelf : List Slot
  -- the certificate of highest view that the console came to know
  pub top : Certificate
  -- the last block handed over, or the origin
  pub head : Key
  -- how many blocks were handed over since opening
  pub count : ℕ

pub record State : Type 0 where
  pub seat : Seat
  pub tick : ℕ
  pub view : ℕ
  -- the name of the block that the console would vote for in its view
  pub candidate : Option (List ℕ)
  -- lock: the parent view of the last vote; voted: its view; proposed: the last view whose turn was taken
  pub marks : Marks
  -- the three numbers as the store has them
  pub store : Marks
  pub ledger : Ledger

-- The ledger over an empty shelf, on the origin.
abbrev pub empty_ledger : ℕ → Ledger
empty_ledger slots =
    record { shelf = replicate slots None; top = origin_certificate; head = origin; count = 0 }

-- Opening in a seat: everything afresh, but for the three numbers, which are what the store says.
abbrev pub opened : Seat → Marks → State
opened seat kept =
    record {
      seat = seat;
      tick = 0;
      view = 0;
      candidate = None;
      marks = kept;
      store = kept;
      ledger = empty_ledger seat.slots;
    }

-- The shelf lent to a call has the slots that it should have.
abbrev pub shelf_fits : State → Bool
shelf_fits s =
    shelf_size (length s.ledger.shelf) && length s.ledger.shelf == s.seat.slots

abbrev pub with_ledger : State → Ledger → State
with_ledger s g =
    record {
      seat = s.seat;
      tick = s.tick;
      view = s.view;
      candidate = s.candidate;
      marks = s.marks;
      store = s.store;
      ledger = g;
    }

-- Saving makes the console's three numbers and the store's the given ones.
abbrev pub saved : State → Marks → State
saved s m =
    record {
      seat = s.seat;
      tick = s.tick;
      view = s.view;
      candidate = s.candidate;
      marks = m;
      store = m;
      ledger = s.ledger;
    }

-- A block of the console's view becomes its candidate if it has none.
abbrev pub or_candidate : Option (List ℕ) → List ℕ → Option (List ℕ)
or_candidate None name = Some name
or_candidate (Some c) name = Some c

abbrev pub with_candidate : State → List ℕ → State
with_candidate s name =
    record {
      seat = s.seat;
      tick = s.tick;
      view = s.view;
      candidate = or_candidate s.candidate name;
      marks = s.marks;
      store = s.store;
      ledger = s.ledger;
    }

-- What look answers.
pub record Seen : Type 0 where
  pub tick : ℕ
  pub lock : ℕ
  pub head : Key
  pub count : ℕ

abbrev pub look : State → Seen
look s =
    record { tick = s.tick; lock = s.marks.lock; head = s.ledger.head; count = s.ledger.count }
