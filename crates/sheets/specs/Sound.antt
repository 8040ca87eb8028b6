-- What is taken for granted of a sheet. Faulty consoles are bound by nothing here: any bytes may be heard at any time.
use Rattle.std.specs.Prelude.{◌≡◌, ℕ, ◌^◌, ◌<◌, ◌≤◌, T, length, Some, ◌≢◌}
use mathlib.Core.List.{Memᴰ}
use Rattle.std.specs.List.{AllByRecursion}
use Rattle.votes.specs.Quorum.{Few}
use Rattle.wire.specs.Bytes.{Octets}
use Rattle.wire.specs.Canon.{OrderFits}
use Rattle.wire.specs.Format.{body_name}
use Rattle.wire.specs.declared.body.Body.{Body}
use Rattle.wire.specs.declared.statement.Statement.{Statement}
use Rattle.rules.specs.Call.{Call, opening, ticking, proposing, passing, hearing}
use Rattle.rules.specs.Step.{turn, Owed, Vouched}
use Rattle.sheets.specs.Sheet.{Pit, Sound, Line, Sheet, Spot, did, answer_in, shown_in, sealed_in, relied_in}

-- A pit has 4 to 16 consoles, and at most (n − 1) ÷ 3 of them are not sound. With more, two quorums need not share a
-- sound console, and no method could keep chains together.
pub record SoundPit (pit : Pit) : Type 0 where
  pub four : 4 ≤ pit.n
  pub sixteen : pit.n ≤ 16
  pub few_faulty : Few pit.n pit.sound

-- What a call's arguments can be. A list stands for bytes here, and a number for one of so many bits; the types of the
-- running calls give these bounds, so every run meets them.
abbrev pub TypedCall : Call → Type 0
TypedCall (opening slots) = Unit {0}
TypedCall (ticking t) = t < 2 ^ 32
TypedCall (proposing owed orders space) = (owed.view < 2 ^ 32) × AllByRecursion OrderFits orders
TypedCall (passing owed) = Unit {0}
TypedCall (hearing bytes) = Octets bytes

-- A line holds what the calls' types can hold: a seal of 16 bytes, ticks and views of 32 bits, numbers of 16 in
-- orders, bytes in messages.
pub record Typed (l : Line) : Type 0 where
  pub sixteen : length l.seal ≡ 16
  pub octets : Octets l.seal
  pub call : TypedCall l.call

abbrev pub TypedLines : Sheet → Type 0
TypedLines sheet = (p : Spot sheet) → Typed p.line

-- Only sound consoles have lines: a sheet lists what the product did, and says nothing of what faulty consoles do.
abbrev pub SoundLines : Pit → Sheet → Type 0
SoundLines pit sheet = (p : Spot sheet) → Sound pit p.line.console

-- Console j sealed the statement on one of the lines.
abbrev pub Sealed : Pit → Sheet → ℕ → Statement → Type 0
Sealed pit lines j st = (q : Spot lines) × (q.line.console ≡ j) × (sealed_in (did pit q) ≡ Some st)

-- A seal cannot be forged, which is what keys are for: when a call relied on a seal under a sound number, that number's console had sealed
-- the statement on an earlier line.
abbrev pub NoForgery : Pit → Sheet → Type 0
NoForgery pit sheet =
    (p : Spot sheet) (v : Vouched) → Memᴰ v (relied_in (did pit p)) → Sound pit v.signer
    → Sealed pit p.earlier v.signer v.statement

-- Sealing gives a seal that the console's own seals accept under its number: what every kind of seals has to show.
abbrev pub GoodSeals : Pit → Sheet → Type 0
GoodSeals pit sheet =
    (p : Spot sheet) (st : Statement) → sealed_in (did pit p) ≡ Some st
    → T (pit.table p.line.console p.line.console st p.line.seal)

-- The call spends this turn.
abbrev pub Spends : Call → Owed → Type 0
Spends (opening slots) owed = ⊥
Spends (ticking t) owed = ⊥
Spends (proposing spent orders space) owed = spent ≡ owed
Spends (passing spent) owed = spent ≡ owed
Spends (hearing bytes) owed = ⊥

-- A console's own turn, spent at it, was answered by one of its own earlier ticks, and no other line there spent it:
-- turns cannot be made up or copied.
pub record TurnsOnce (pit : Pit) (sheet : Sheet) : Type 0 where
  pub came : (p : Spot sheet) (owed : Owed) → Spends p.line.call owed → owed.console ≡ p.line.console
      → (q : Spot p.earlier) × (q.line.console ≡ owed.console) × (answer_in (did pit q) ≡ Some (turn owed))
  pub once : (p : Spot sheet) (q : Spot p.earlier) (owed : Owed) → Spends p.line.call owed → Spends q.line.call owed
      → owed.console ≡ p.line.console → owed.console ≢ q.line.console

-- A body is on the sheet if a sound console proposed it or took it up from a message.
abbrev pub OnSheet : Pit → Sheet → Body → Type 0
OnSheet pit sheet b = (p : Spot sheet) × (shown_in (did pit p) ≡ Some b)

-- No two bodies on the sheet share a digest: nobody has found two messages of one SHA-256 digest.
abbrev pub NoCollision : Pit → Sheet → Type 0
NoCollision pit sheet =
    (b c : Body) → OnSheet pit sheet b → OnSheet pit sheet c → body_name b ≡ body_name c → b ≡ c

pub record SoundSheet (pit : Pit) (sheet : Sheet) : Type 0 where
  pub the_pit : SoundPit pit
  pub lines : SoundLines pit sheet
  pub typed : TypedLines sheet
  pub seals : NoForgery pit sheet
  pub sealing : GoodSeals pit sheet
  pub turns : TurnsOnce pit sheet
  pub digests : NoCollision pit sheet
