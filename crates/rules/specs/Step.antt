-- One call at an open console: what it answers, what it leaves, and what it did on the way.
use Rattle.std.specs.Prelude.{ℕ, List, [], None, Option}
use Rattle.wire.specs.declared.body.Body.{Body}
use Rattle.wire.specs.declared.message.Vote.{Vote}
use Rattle.wire.specs.declared.statement.Statement.{Statement}
use Rattle.rules.specs.declared.refusal.Refusal.{Refusal}
use Rattle.rules.specs.State.{State}

-- A turn: the right to propose once in a view.
pub record Owed : Type 0 where
  pub console : ℕ
  pub view : ℕ

pub data Answer : Type 0 where
  refused : Refusal → Answer
  opens : Answer
  turn : Owed → Answer
  vote : Vote → Answer
  nothing : Answer
  -- a proposal of so many bytes
  proposal : ℕ → Answer
  passed : Answer
  new : Answer
  known : Answer

-- A seal that a call accepted: under this number, for this statement.
pub record Vouched : Type 0 where
  pub signer : ℕ
  pub statement : Statement

pub record Outcome : Type 0 where
  pub answer : Answer
  pub state : State
  -- the bodies handed over, oldest first
  pub handed : List Body
  -- the bytes written at the start of the output; those beyond them stay
  pub written : List ℕ
  -- the body voted for
  pub ballot : Option Body
  -- the statement that was sealed
  pub sealed : Option Statement
  -- the body proposed, or taken up from a message
  pub shown : Option Body
  -- the seals on which the call relied
  pub relied : List Vouched

-- An answer alone: nothing else happens.
abbrev pub only : Answer → State → Outcome
only a s =
    record {
      answer = a;
      state = s;
      handed = [];
      written = [];
      ballot = None;
      sealed = None;
      shown = None;
      relied = [];
    }
