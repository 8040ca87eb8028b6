-- Why the calls keep what Laws says.
use Rattle.std.proofs.Common.{◌≡◌, ℕ, ◌+◌, ◌<◌, ◌≤◌, Bool, true, false, ◌||◌, eqb, ◌⊎◌, List, [], ◌∷◌, ◌++◌, Some, None, Option, sym, refl, ap, ◌∙◌, subst, inl, inr, arith}
use Rattle.std.proofs.lemmas.Bool.{cond_both}
use Rattle.std.proofs.lemmas.Bool.Decides.{nat_tests}
use Rattle.votes.specs.Quorum.{is_quorum}
use Rattle.wire.specs.Format.{same_key}
use Rattle.wire.specs.declared.body.Body.{Body}
use Rattle.wire.specs.declared.key.Key.{Key}
use Rattle.wire.specs.declared.message.Proposal.{Proposal}
use Rattle.wire.specs.declared.message.Vote.{Vote}
use Rattle.wire.specs.declared.order.Order.{Order}
use Rattle.parts.specs.declared.store.Marks.{Marks}
use Rattle.rules.specs.declared.block.Block.{Block}
use Rattle.rules.specs.Blocks.{Slot, On, block_key, held, some_slot}
use Rattle.rules.specs.Call.{Call, opening, ticking, proposing, passing, hearing, step}
use Rattle.rules.specs.Hear.{take_up, count_vote, hear}
use Rattle.rules.specs.Laws.{VotesRightly, EveryVote, KeepsVotes, NoVoteLost, CountedOnce, Child, Certified, HandedRightly, EveryHandOver}
use Rattle.rules.specs.Pit.{view_of}
use Rattle.rules.specs.Propose.{propose, propose_body}
use Rattle.rules.specs.Settle.{names_parent, certified, confirms, line_within, line, ready, best, Settled, settle_at, settle}
use Rattle.rules.specs.State.{State, Ledger, Table}
use Rattle.rules.specs.Step.{Outcome, Owed}
use Rattle.rules.specs.Tick.{clocked, candidate_block, may_vote, vote_for, tick}
use Rattle.rules.specs.Shelves.{key_same, held_on, best_on, some_slot_on}
use Rattle.rules.proofs.Ways.{turn_ways, vote_ways, tick_ways, propose_ways, hear_ways, hear_proposal_ways, hear_vote_ways}

-- ---- voting

-- the candidate's block is of the console's view
candidate_view : (s : State) (b : Block) → candidate_block s ≡ Some b → b.body.view ≡ s.view
candidate_view s b e = at s.candidate e
  where
    at : (c : Option (List ℕ)) → elim c [ None ↦ None | Some name ↦ held (record { view = s.view; name = name }) s.ledger.shelf ] ≡ Some b
        → b.body.view ≡ s.view
    at None f = absurd (let z : ◌≡◌ {A = ℕ} 0 1 = cc in omega arith)
    at (Some name) f = ap (λ (k : Key). k.view) (held_on (record { view = s.view; name = name }) s.ledger.shelf b f).1

-- lock and voted stay, and the store goes with the console's own numbers if it did
abbrev Stays : State → Marks → Marks → Type 0
Stays s marks store = KeepsVotes s.marks marks × (s.store ≡ s.marks → store ≡ marks)

-- An outcome casts no vote, or a right one.
abbrev Plain : State → Outcome → Type 0
Plain s o = (o.ballot ≡ None) × Stays s o.state.marks o.state.store

abbrev Right : State → Outcome → Type 0
Right s o = (b : Body) × (o.ballot ≡ Some b) × VotesRightly s o.state b

abbrev PlainOrRight : State → Outcome → Type 0
PlainOrRight s o = Plain s o ⊎ Right s o

-- the three numbers stay as they are
stays : (s : State) (marks store : Marks) → marks ≡ s.marks → store ≡ s.store → Stays s marks store
stays s marks store m t =
    (record { lock = ap (λ (x : Marks). x.lock) m; voted = ap (λ (x : Marks). x.voted) m }, λ f. t ∙ f ∙ sym m)

-- a vote for a candidate, from the clocked state
voted : (seal : List ℕ) (s : State) (t : ℕ) (b : Block) → candidate_block (clocked s t) ≡ Some b
    → may_vote s.marks (view_of t) b.body.parent.view ≡ true → PlainOrRight s (vote_for b seal (clocked s t))
unfolding vote_for
voted seal s t b e m =
    let v : b.body.view ≡ view_of t = candidate_view (clocked s t) b e in
    let r : s.marks.voted < b.body.view = grind (arith, nat_tests) in
    let u : s.marks.lock ≤ b.body.parent.view = grind (arith, nat_tests) in
    inr (b.body, refl, record { rises = r; unlocked = u; voted = sym v; lock = refl; proposed = refl; saved = refl })

tick_votes : (seal : List ℕ) (s : State) (t : ℕ) → PlainOrRight s (tick seal s t)
tick_votes seal s t =
    tick_ways seal s t (PlainOrRight s)
    (λ r _. inl (refl, stays s _ _ refl refl))
    (λ _ _. turn_ways (clocked s t) (PlainOrRight s) (λ _. inl (refl, (record { lock = refl; voted = refl }, λ _. refl))) (λ _. inl (refl, stays s _ _ refl refl)))
    (λ _ _. vote_ways seal (clocked s t) (PlainOrRight s) (voted seal s t) (λ _ _ _. inl (refl, stays s _ _ refl refl)) (λ _. inl (refl, stays s _ _ refl refl)))

propose_votes : (seal : List ℕ) (s : State) (owed : Owed) (orders : List Order) (space : ℕ) → PlainOrRight s (propose seal s owed orders space)
unfolding propose_body
propose_votes seal s owed orders space =
    propose_ways seal s owed orders space (PlainOrRight s) (λ r _. inl (refl, stays s _ _ refl refl)) (λ _. inl (refl, stays s _ _ refl refl))

taken_up : (p : Proposal) (s : State) → PlainOrRight s (take_up p s)
unfolding take_up
taken_up p s =
    inl (
      refl,
      stays s _ _
          (cond_both (eqb p.body.view s.view) _ _ (λ (x : State). x.marks ≡ s.marks) (λ _. refl) (λ _. refl))
          (cond_both (eqb p.body.view s.view) _ _ (λ (x : State). x.store ≡ s.store) (λ _. refl) (λ _. refl)),
    )

counted : (v : Vote) (s : State) → PlainOrRight s (count_vote v s)
unfolding count_vote
counted v s = inl (refl, stays s _ _ refl refl)

hear_votes : (table : Table) (s : State) (bytes : List ℕ) → PlainOrRight s (hear table s bytes)
hear_votes table s bytes =
    hear_ways table s bytes (PlainOrRight s)
    (λ _. inl (refl, stays s _ _ refl refl))
    (λ _ _ _. inl (refl, stays s _ _ refl refl))
    (λ p _ _. hear_proposal_ways table s p (PlainOrRight s)
    (λ _ _. inl (refl, stays s _ _ refl refl)) (λ _ _. inl (refl, stays s _ _ refl refl)) (λ _ _. taken_up p s))
    (λ v _ _. hear_vote_ways table s v (PlainOrRight s)
    (λ _. inl (refl, stays s _ _ refl refl)) (λ _ _ _. inl (refl, stays s _ _ refl refl)) (λ _ _ _ _. inl (refl, stays s _ _ refl refl)) (λ _ _ _ _. counted v s))

-- any call but an opening
calls_vote : (table : Table) (seal : List ℕ) (s : State) (call : Call) → s.store ≡ s.marks → PlainOrRight s (step table seal s call)
calls_vote table seal s (opening slots) e =
    inl (refl, (record { lock = ap (λ (m : Marks). m.lock) e; voted = ap (λ (m : Marks). m.voted) e }, λ _. refl))
calls_vote table seal s (ticking t) e = tick_votes seal s t
calls_vote table seal s (proposing owed orders space) e = propose_votes seal s owed orders space
calls_vote table seal s (passing owed) e = inl (refl, stays s _ _ refl refl)
calls_vote table seal s (hearing bytes) e = hear_votes table s bytes

-- the outcome that casts this vote is no plain one
right_one : (s : State) (o : Outcome) (b : Body) → o.ballot ≡ Some b → PlainOrRight s o → VotesRightly s o.state b
right_one s o b e (inl h) = absurd (let f = h.0 in let z : ◌≡◌ {A = ℕ} 0 1 = cc in omega arith)
right_one s o b e (inr h) =
    let f = h.1 in
    let same : h.0 ≡ b = cc in
    subst (VotesRightly s o.state) same h.2

pub every_vote : EveryVote
every_vote table seal s (opening slots) b e = absurd (let z : ◌≡◌ {A = ℕ} 0 1 = cc in omega arith)
every_vote table seal s (ticking t) b e = right_one s (tick seal s t) b e (tick_votes seal s t)
every_vote table seal s (proposing owed orders space) b e = right_one s (propose seal s owed orders space) b e (propose_votes seal s owed orders space)
every_vote table seal s (passing owed) b e = absurd (let z : ◌≡◌ {A = ℕ} 0 1 = cc in omega arith)
every_vote table seal s (hearing bytes) b e = right_one s (hear table s bytes) b e (hear_votes table s bytes)

plain_one : (s : State) (o : Outcome) → s.store ≡ s.marks → o.ballot ≡ None → PlainOrRight s o
    → KeepsVotes s.marks o.state.marks × (o.state.store ≡ o.state.marks)
plain_one s o k e (inl h) = (h.1.0, h.1.1 k)
plain_one s o k e (inr h) = absurd (let f = h.1 in let z : ◌≡◌ {A = ℕ} 0 1 = cc in omega arith)

pub no_vote_lost : NoVoteLost
no_vote_lost table seal s call k e = plain_one s (step table seal s call) k e (calls_vote table seal s call k)

-- ---- tallies

pub counted_once : CountedOnce
counted_once voter seal t e = grind (arith, nat_tests)

-- ---- handing over

-- the test that a certified block passed
certified_by : (n : ℕ) (xs : List Slot) (c : Block) → certified n xs c ≡ true → Certified n xs c
certified_by n xs c e = at (is_quorum n c.tally.set) refl e
  where
    named : some_slot (names_parent (block_key c)) xs ≡ true → (d : Block) × On d xs × Child d c
    named f =
        let d = some_slot_on (names_parent (block_key c)) refl xs f in
        (d.0, d.1, key_same d.0.body.parent (block_key c) d.2)

    at : (q : Bool) → is_quorum n c.tally.set ≡ q → (q || some_slot (names_parent (block_key c)) xs) ≡ true → Certified n xs c
    at true f g = inl f
    at false f g = inr (named g)

-- the line ends in its block
line_ends : (xs : List Slot) (head : Key) (b : Block) → (front : List Body) × (line xs head b ≡ front ++ (b.body ∷ []))
unfolding line_within
line_ends xs head b = (_, refl)

-- the tests that a block to be handed over passed, and its child
ready_by : (n : ℕ) (xs : List Slot) (head : Key) (b : Block) → ready n xs head (Some b) ≡ true
    → (head.view < b.body.view) × (some_slot (confirms n xs b) xs ≡ true)
ready_by n xs head b e = grind (arith, nat_tests)

confirmed : (n : ℕ) (xs : List Slot) (b c : Block) → confirms n xs b (Some c) ≡ true
    → (same_key c.body.parent (block_key b) ≡ true) × (c.body.view ≡ b.body.view + 1) × (certified n xs c ≡ true)
confirmed n xs b c e = grind (arith, nat_tests)

handed : (n : ℕ) (g : Ledger) (b : Block) → best (ready n g.shelf g.head) g.shelf ≡ Some b
    → settle_at (Some b) g ≡ settle n g → HandedRightly n g
unfolding settle_at
handed n g b e same =
    let o = best_on (ready n g.shelf g.head) g.shelf b e in
    let r = ready_by n g.shelf g.head b o.1 in
    let d = some_slot_on (confirms n g.shelf b) refl g.shelf r.1 in
    let k = confirmed n g.shelf b d.0 d.2 in
    let f = line_ends g.shelf g.head b in
    record {
      block = b;
      child = d.0;
      on = o.0;
      child_on = d.1;
      above = r.0;
      upon = key_same d.0.body.parent (block_key b) k.0;
      next = k.1;
      certified = certified_by n g.shelf d.0 k.2;
      front = f.0;
      last = ap (λ (x : Settled). x.handed) (sym same) ∙ f.1;
      head = ap (λ (x : Settled). x.ledger.head) (sym same);
    }

pub every_hand_over : EveryHandOver
unfolding settle settle_at
every_hand_over n g = at (best (ready n g.shelf g.head) g.shelf) refl
  where
    at : (o : Slot) → best (ready n g.shelf g.head) g.shelf ≡ o
        → (((settle n g).handed ≡ []) × ((settle n g).ledger ≡ g)) ⊎ HandedRightly n g
    at None e =
        let f = ap (λ (x : Slot). settle_at x g) e in
        inl (ap (λ (x : Settled). x.handed) f, ap (λ (x : Settled). x.ledger) f)
    at (Some b) e = inr (handed n g b e (sym (ap (λ (x : Slot). settle_at x g) e)))
