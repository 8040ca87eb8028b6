-- What the calls keep, in words of the subject: above the definitions, which spell each call out.
use Rattle.std.specs.Prelude.{◌≡◌, ℕ, ◌+◌, ◌<◌, ◌≤◌, true, ◌⊎◌, List, [], ◌∷◌, ◌++◌, Some, None}
use Rattle.votes.specs.Quorum.{is_quorum}
use Rattle.wire.specs.Format.{signed}
use Rattle.wire.specs.declared.body.Body.{Body}
use Rattle.wire.specs.declared.certificate.Signers.{Signers}
use Rattle.parts.specs.declared.store.Marks.{Marks}
use Rattle.rules.specs.declared.block.Block.{Block}
use Rattle.rules.specs.Blocks.{Slot, On, block_key}
use Rattle.rules.specs.Call.{Call, step}
use Rattle.rules.specs.Settle.{joined, settle}
use Rattle.rules.specs.State.{State, Ledger, Table}

-- A vote of a console, from the state before it to the state after.
pub record VotesRightly (before after : State) (b : Body) : Type 0 where
  -- in a view above every view that it voted in
  pub rises : before.marks.voted < b.view
  -- on a parent that is not below its lock
  pub unlocked : before.marks.lock ≤ b.parent.view
  -- from now on this is its last vote, and the parent's view its lock
  pub voted : after.marks.voted ≡ b.view
  pub lock : after.marks.lock ≡ b.parent.view
  pub proposed : after.marks.proposed ≡ before.marks.proposed
  -- which the store has
  pub saved : after.store ≡ after.marks

-- Whenever a call votes, it votes rightly.
abbrev pub EveryVote : Type 0
EveryVote =
    (table : Table) (seal : List ℕ) (s : State) (call : Call) (b : Body)
    → (step table seal s call).ballot ≡ Some b → VotesRightly s (step table seal s call).state b

-- A call that does not vote leaves lock and voted, and what the store has of them: opening takes them from the store,
-- and every other call leaves them alone.
pub record KeepsVotes (before after : Marks) : Type 0 where
  pub lock : after.lock ≡ before.lock
  pub voted : after.voted ≡ before.voted

abbrev pub NoVoteLost : Type 0
NoVoteLost =
    (table : Table) (seal : List ℕ) (s : State) (call : Call)
    → s.store ≡ s.marks → (step table seal s call).ballot ≡ None
    → KeepsVotes s.marks (step table seal s call).state.marks × ((step table seal s call).state.store ≡ (step table seal s call).state.marks)

-- One voter counts once: a voter who is in a tally leaves it as it is.
abbrev pub CountedOnce : Type 0
CountedOnce =
    (voter : ℕ) (seal : List ℕ) (t : Signers) → signed t.set voter ≡ true → joined voter seal t ≡ t

-- A block names another as its parent.
abbrev pub Child : Block → Block → Type 0
Child c b = c.body.parent ≡ block_key b

-- It is certified: a quorum voted for it, or a held block names it as parent.
abbrev pub Certified : ℕ → List Slot → Block → Type 0
Certified n xs c = (is_quorum n c.tally.set ≡ true) ⊎ ((d : Block) × On d xs × Child d c)

-- What settling hands over ends in a held block above the head, with a held, certified child of the very next view. It
-- is the new head.
pub record HandedRightly (n : ℕ) (g : Ledger) : Type 0 where
  pub block : Block
  pub child : Block
  pub on : On block g.shelf
  pub child_on : On child g.shelf
  pub above : g.head.view < block.body.view
  pub upon : Child child block
  pub next : child.body.view ≡ block.body.view + 1
  pub certified : Certified n g.shelf child
  pub front : List Body
  pub last : (settle n g).handed ≡ front ++ (block.body ∷ [])
  pub head : (settle n g).ledger.head ≡ block_key block

abbrev pub EveryHandOver : Type 0
EveryHandOver =
    (n : ℕ) (g : Ledger) → (((settle n g).handed ≡ []) × ((settle n g).ledger ≡ g)) ⊎ HandedRightly n g
