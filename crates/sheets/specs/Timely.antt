-- A timely stretch: two views long, with sound leaders and a radio that brings everything in time.
use Rattle.std.specs.Prelude.{◌≡◌, ℕ, ◌+◌, ◌*◌, ◌<◌, ◌≤◌, true, T, ◌⊎◌, List, ◌∷◌, ◌++◌, length, Some, None, Option, ◌≢◌}
use mathlib.Core.List.{Memᴰ}
use Rattle.wire.specs.Format.{vote_bytes}
use Rattle.wire.specs.declared.body.Body.{Body}
use Rattle.wire.specs.declared.key.Key.{Key}
use Rattle.wire.specs.declared.order.Order.{Order}
use Rattle.wire.specs.declared.statement.Statement.{Statement}
use Rattle.rules.specs.declared.block.Block.{Block}
use Rattle.rules.specs.declared.refusal.Refusal.{Refusal}
use Rattle.rules.specs.declared.refusal.Refusal.TheVariants.{ShelfFull}
use Rattle.rules.specs.Blocks.{held}
use Rattle.rules.specs.Call.{ticking, proposing, hearing}
use Rattle.rules.specs.Pit.{leader}
use Rattle.rules.specs.Settle.{reaches}
use Rattle.rules.specs.State.{State}
use Rattle.rules.specs.Step.{Answer, refused, opens, turn, vote, nothing, proposal, passed, new, known, Owed, Outcome}
use Rattle.sheets.specs.Sheet.{Pit, Sound, Line, Sheet, Spot, state_at, did, answer_in, handed_in, shown_in, is_opening}

-- The stretch of view v: from the first tick 2v to before the first tick 2v + 4 at any console of the sheet.
pub record Stretch (sheet : Sheet) (v : ℕ) : Type 0 where
  -- the lines after the first tick 2v + 4, that tick, and all lines before it
  pub rest : Sheet
  pub close : Line
  pub run : Sheet
  pub ends : sheet ≡ rest ++ (close ∷ run)
  pub close_tick : close.call ≡ ticking (2 * v + 4)
  pub first_close : (p : Spot run) → p.line.call ≢ ticking (2 * v + 4)
  -- the lines of the stretch, its first line, and the lines before it
  pub within : Sheet
  pub start : Line
  pub before : Sheet
  pub begins : run ≡ within ++ (start ∷ before)
  pub start_tick : start.call ≡ ticking (2 * v)
  pub first_start : (p : Spot before) → p.line.call ≢ ticking (2 * v)

module _ {sheet : Sheet} {v : ℕ} (st : Stretch sheet v) where
  -- The line belongs to the stretch.
  abbrev pub Inside : Spot st.run → Type 0
  Inside p = length st.before ≤ length p.earlier

  -- The one line came before the other.
  abbrev pub CameBefore : Spot st.run → Spot st.run → Type 0
  CameBefore p q = length p.earlier < length q.earlier

-- The message that a call made: a vote, or a proposal in its output.
abbrev pub made_message : Answer → List ℕ → Option (List ℕ)
made_message (refused r) written = None
made_message opens written = None
made_message (turn owed) written = None
made_message (vote x) written = Some (vote_bytes x)
made_message nothing written = None
made_message (proposal len) written = Some written
made_message passed written = None
made_message new written = None
made_message known written = None

abbrev pub made_in : Option Outcome → Option (List ℕ)
made_in None = None
made_in (Some o) = made_message o.answer o.written

-- The tick at which an outcome leaves its console.
abbrev pub tick_in : Option Outcome → ℕ
tick_in None = 0
tick_in (Some o) = o.state.tick

-- The line at p made this message, at tick t.
pub record Made (pit : Pit) {lines : Sheet} (p : Spot lines) (t : ℕ) (bytes : List ℕ) : Type 0 where
  pub message : made_in (did pit p) ≡ Some bytes
  pub at_tick : tick_in (did pit p) ≡ t

-- The leader's turn of view u went into an accepted propose of the stretch, which made this body and message.
pub record Proposed (pit : Pit) {sheet : Sheet} {v : ℕ} (st : Stretch sheet v) (u : ℕ) : Type 0 where
  pub spot : Spot st.run
  pub inside : Inside st spot
  pub at_leader : spot.line.console ≡ leader pit.n u
  pub owed : Owed
  pub its_turn : owed ≡ record { console = leader pit.n u; view = u }
  pub orders : List Order
  pub space : ℕ
  pub call : spot.line.call ≡ proposing owed orders space
  pub body : Body
  pub shows : shown_in (did pit spot) ≡ Some body
  pub bytes : List ℕ
  pub message : made_in (did pit spot) ≡ Some bytes

-- The shelf of a console holds all blocks after its head up to the block of that key.
abbrev pub HoldsUpTo : State → Key → Type 0
HoldsUpTo s k =
    (k ≡ s.ledger.head)
    ⊎ ((b : Block) × (held k s.ledger.shelf ≡ Some b) × T (reaches s.ledger.shelf s.ledger.head b))

-- A console that is open at some moment, in a state with this property.
abbrev pub OpenWith : Pit → ℕ → Sheet → (State → Type 0) → Type 0
OpenWith pit i lines P = (s : State) × (state_at pit i lines ≡ Some s) × P s

pub record Timely (pit : Pit) {sheet : Sheet} (v : ℕ) (st : Stretch sheet v) : Type 0 where
  pub positive : 1 ≤ v
  pub leader_sound : Sound pit (leader pit.n v)
  pub next_leader_sound : Sound pit (leader pit.n (v + 1))
  -- before it, all are open, at ticks below 2v, with voted and proposed below v
  pub all_ready : (i : ℕ) → Sound pit i
      → OpenWith pit i st.before (λ s. (s.tick < 2 * v) × (s.marks.voted < v) × (s.marks.proposed < v))
  -- each takes the four ticks, none refused and no other, and no console opens
  pub takes_ticks : (i : ℕ) → Sound pit i → (k : ℕ) → k < 4
      → (p : Spot st.run) × Inside st p × (p.line.console ≡ i) × (p.line.call ≡ ticking (2 * v + k))
  pub no_other_tick : (p : Spot st.run) → Inside st p → (t : ℕ) → p.line.call ≡ ticking t → (2 * v ≤ t) × (t < 2 * v + 4)
  pub no_tick_refused : (p : Spot st.run) → Inside st p → (t : ℕ) → p.line.call ≡ ticking t
      → (r : Refusal) → answer_in (did pit p) ≢ Some (refused r)
  pub no_opening : (p : Spot st.run) → Inside st p → is_opening p.line.call ≢ true
  -- all take a tick before anything made at it is heard
  pub tick_first : (q p : Spot st.run) (t : ℕ) (bytes : List ℕ) → Inside st q → CameBefore st q p → Made pit q t bytes
      → p.line.call ≡ hearing bytes → (i : ℕ) → Sound pit i
      → (r : Spot st.run) × Inside st r × CameBefore st r p × (r.line.console ≡ i) × (r.line.call ≡ ticking t)
  -- each leader's turn goes into an accepted propose
  pub first : Proposed pit st v
  pub second : Proposed pit st (v + 1)
  -- what a sound console makes at tick t is heard by all others before any takes tick t + 1
  pub in_time : (q : Spot st.run) (t : ℕ) (bytes : List ℕ) → Inside st q → Made pit q t bytes
      → (j : ℕ) → Sound pit j → (j ≢ q.line.console)
      → (p : Spot st.run) × CameBefore st q p × (p.line.console ≡ j) × (p.line.call ≡ hearing bytes)
      × ((r : Spot st.run) → Inside st r → r.line.call ≡ ticking (t + 1) → CameBefore st p r)
  -- when view v is proposed, the leader's top certificate's view is at least every lock, and each shelf holds all
  -- blocks after its head up to the block of that certificate
  pub top_reached : (l : State) → state_at pit (leader pit.n v) first.spot.earlier ≡ Some l → (i : ℕ) → Sound pit i
      → OpenWith pit i first.spot.earlier
      (λ s. (s.marks.lock ≤ l.ledger.top.block.view) × HoldsUpTo s l.ledger.top.block)
  -- no shelf is full for either leader's block
  pub room : (p : Spot st.run) → Inside st p
      → (p.line.call ≡ hearing first.bytes) ⊎ (p.line.call ≡ hearing second.bytes)
      → answer_in (did pit p) ≢ Some (refused ShelfFull)
  -- all seals accept alike
  pub alike : (i j : ℕ) → Sound pit i → Sound pit j → (signer : ℕ) (s : Statement) (seal : List ℕ)
      → pit.table i signer s seal ≡ pit.table j signer s seal

-- Console i hands over this body on a line of the stretch.
abbrev pub HandsOver : (pit : Pit) {sheet : Sheet} {v : ℕ} → Stretch sheet v → ℕ → Body → Type 0
HandsOver pit st i b =
    (p : Spot st.run) × Inside st p × (p.line.console ≡ i) × Memᴰ b (handed_in (did pit p))
