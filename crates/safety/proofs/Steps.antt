-- Every call but opening keeps what holds of a sound console, in a history that has what the call adds to it.
use Rattle.std.proofs.Common.{◌≡◌, ℕ, zero, suc, ◌<◌, ◌≤◌, Bool, true, false, cond, T, eqb, ◌⊎◌, List, [], ◌∷◌, ◌++◌, Some, None, Option, sym, refl, ap, ◌∙◌, subst, inl, inr, ⊎_elim, arith}
use mathlib.Core.List.{Memᴰ}
use Rattle.std.proofs.lemmas.List.{append-nil}
use Rattle.std.proofs.lemmas.Bool.{cases_eq, cond_both, and_parts, or_cases, eqb-true, eq-eqb, both_ways}
use Rattle.parts.specs.declared.store.Marks.{Marks}
use Rattle.votes.specs.Quorum.{is_quorum}
use Rattle.votes.specs.Votes.{History, Among, Voted, Backed}
use Rattle.wire.specs.Format.{body_key, body_name, signed}
use Rattle.wire.specs.declared.body.Body.{Body}
use Rattle.wire.specs.declared.certificate.Signers.{Signers}
use Rattle.wire.specs.declared.key.Key.{Key}
use Rattle.wire.specs.declared.message.Proposal.{Proposal}
use Rattle.wire.specs.declared.message.Vote.{Vote}
use Rattle.wire.specs.declared.statement.Statement.{Statement}
use Rattle.wire.specs.declared.statement.Purpose.TheVariants as purpose
use Rattle.rules.specs.declared.block.Block.{Block}
use Rattle.rules.specs.Blocks.{block_key, is_held}
use Rattle.rules.specs.Call.{Call, opening, ticking, proposing, passing, hearing, step}
use Rattle.rules.specs.Hear.{votes_for, certificate_stands, vouchers, take_up, count_vote}
use Rattle.rules.specs.Propose.{body_on_top, placed_if_new, propose_body}
use Rattle.rules.specs.Settle.{fresh, placed, enter, settle}
use Rattle.rules.specs.State.{State, Ledger, Table}
use Rattle.rules.specs.Step.{Answer, Outcome, only, Vouched}
use Rattle.rules.specs.Tick.{clocked, candidate_block, may_vote, vote_for}
use Rattle.sheets.specs.Sheet.{Pit, Sound, is_opening}
use Rattle.safety.proofs.Grounds.{candidate_on, may_vote_facts, propose_stands, proposal_stands}
use Rattle.safety.proofs.Histories.{blocks, consoles}
use Rattle.safety.proofs.Ledgers.{SoundLedger, block_named, fresh_sound, placed_sound, with_top_sound, enter_sound, settle_sound}
use Rattle.rules.specs.Options.{absent, same_some}
use Rattle.safety.proofs.Reading.{ReadProposal, ReadVote, read_proposal, read_vote}
use Rattle.rules.proofs.Ways.{turn_ways, vote_ways, tick_ways, propose_ways, hear_proposal_ways, hear_vote_ways, hear_ways}

-- ---- the seals of a certificate

-- every signer below the bound is among the vouchers
pub voucher : (st : Statement) (s : Signers) (m i : ℕ) → i < m → signed s.set i ≡ true
    → Memᴰ (record { signer = i; statement = st }) (vouchers st s m)
unfolding vouchers
voucher st s zero i l e = absurd (omega (arith, l))
voucher st s (suc m) i l e =
    at (cases_eq i m) (λ k. voucher st s m i k e)
  where
    at : (i ≡ m) ⊎ (i ≡ m → ⊥) → (i < m → Memᴰ (record { signer = i; statement = st }) (vouchers st s m))
        → Memᴰ (record { signer = i; statement = st }) (cond (signed s.set m) (record { signer = m; statement = st } ∷ []) [] ++ vouchers st s m)
    at (inl q) ih =
        subst (λ (t : Bool). Memᴰ (record { signer = i; statement = st }) (cond t (record { signer = m; statement = st } ∷ []) [] ++ vouchers st s m))
        (sym e ∙ ap (signed s.set) q)
        (Memᴰ.head (ap (λ (j : ℕ). record { signer = j; statement = st }) q))
    at (inr n) ih =
        cond_both (signed s.set m) _ _ (λ (vs : List Vouched). Memᴰ (record { signer = i; statement = st }) (vs ++ vouchers st s m))
        (λ _. Memᴰ.tail (ih (omega arith)))
        (λ _. ih (omega arith))

-- ---- what a call adds, and what it keeps

-- A history has what the outcome of a call at console i adds, and the votes that stand behind the seals it relied on.
pub record Told (pit : Pit) (h : History blocks) (i : ℕ) (o : Outcome) : Type 0 where
  pub shown : (b : Body) → o.shown ≡ Some b → Among b h.shown
  pub ballot : (b : Body) → o.ballot ≡ Some b → Among b (h.votes i)
  pub relied : (j : ℕ) (k : Key) → Sound pit j → Memᴰ (record { signer = j; statement = votes_for k }) o.relied → Voted blocks h j k

-- An open console: in its seat, its store as its own numbers, a sound ledger with these bodies handed over.
pub record AtConsole (pit : Pit) (h : History blocks) (i : ℕ) (bodies : List Body) (s : State) : Type 0 where
  pub size : s.seat.n ≡ pit.n
  pub own : s.seat.own ≡ i
  pub store : s.store ≡ s.marks
  pub ledger : SoundLedger pit h bodies s.ledger

-- How lock and voted move: by a vote alone, upwards.
abbrev pub MarksMove : Option Body → Marks → Marks → Type 0
MarksMove None m w = (w.voted ≡ m.voted) × (w.lock ≡ m.lock)
MarksMove (Some b) m w =
    (m.voted < b.view) × (m.lock ≤ b.parent.view) × (w.voted ≡ b.view) × (w.lock ≡ b.parent.view)

pub record GoodStep (pit : Pit) (h : History blocks) (i : ℕ) (bodies : List Body) (s : State) (o : Outcome) : Type 0 where
  pub after : AtConsole pit h i (bodies ++ o.handed) o.state
  pub marks : MarksMove o.ballot s.marks o.state.marks
  -- a sealed vote is a ballot
  pub sealed : (k : Key) → o.sealed ≡ Some (votes_for k) → (b : Body) × (o.ballot ≡ Some b) × (body_key b ≡ k)
  pub ballot : (b : Body) → o.ballot ≡ Some b → Among b h.shown × Backed blocks (consoles pit) h b.parent
  pub shown : (b : Body) → o.shown ≡ Some b → b.parent.view < b.view

sealed_key : (j k : Key) → ◌≡◌ {A = Option Statement} (Some (votes_for j)) (Some (votes_for k)) → j ≡ k
sealed_key j k q = ap (λ (st : Statement). st.block) (same_some (votes_for j) (votes_for k) q)

-- proposing is not voting
no_vote : {B : Type 0} (j k : Key) → ◌≡◌ {A = Option Statement} (Some (record { purpose = purpose.Propose; block = j })) (Some (votes_for k)) → B
no_vote j k e =
    let p : purpose.Propose ≡ purpose.Vote = ap (λ (st : Statement). st.purpose) (same_some _ (votes_for k) e) in
    absurd (let z : ◌≡◌ {A = ℕ} 0 1 = cc in omega arith)

module _ (pit : Pit) (h : History blocks) (i : ℕ) (inside : i < pit.n) (sixteen : pit.n ≤ 16) (bodies : List Body) where
  -- nothing but the answer, the clock, the candidate and the last turn may change
  only_good : (a : Answer) (s w : State) → AtConsole pit h i bodies s → w.seat ≡ s.seat → w.store ≡ w.marks → w.ledger ≡ s.ledger
      → w.marks.voted ≡ s.marks.voted → w.marks.lock ≡ s.marks.lock → GoodStep pit h i bodies s (only a w)
  only_good a s w c seat store ledger voted lock = record {
    after = record {
      size = ap (λ x. x.n) seat ∙ c.size;
      own = ap (λ x. x.own) seat ∙ c.own;
      store = store;
      ledger =
          subst (λ (bs : List Body). SoundLedger pit h bs w.ledger) (sym (append-nil bodies))
          (subst (SoundLedger pit h bodies) (sym ledger) c.ledger);
    };
    marks = (voted, lock);
    sealed = λ k e. absent (votes_for k) e;
    ballot = λ b e. absent b e;
    shown = λ b e. absent b e;
  }

  same_good : (a : Answer) (s : State) → AtConsole pit h i bodies s → GoodStep pit h i bodies s (only a s)
  same_good a s c = only_good a s s c refl c.store refl refl refl

  -- settling in a console's seat
  settled_in : (s : State) (g : Ledger) → AtConsole pit h i bodies s → SoundLedger pit h bodies g
      → SoundLedger pit h (bodies ++ (settle s.seat.n g).handed) (settle s.seat.n g).ledger
  settled_in s g c l =
      subst (λ (n : ℕ). SoundLedger pit h (bodies ++ (settle n g).handed) (settle n g).ledger) (sym c.size) (settle_sound pit h bodies g l)

  -- a vote that was cast enters the tally
  entered_in : (s : State) (k : Key) (voter : ℕ) (seal : List ℕ) → AtConsole pit h i bodies s → voter < pit.n
      → (Sound pit voter → Voted blocks h voter k) → SoundLedger pit h bodies (enter s.seat.n k voter seal s.ledger)
  entered_in s k voter seal c l v =
      subst (λ (n : ℕ). SoundLedger pit h bodies (enter n k voter seal s.ledger)) (sym c.size)
      (enter_sound pit h bodies k voter seal s.ledger l v c.ledger)

  -- ---- votes

  vote_good : (b : Block) (seal : List ℕ) (s : State) → AtConsole pit h i bodies s → candidate_block s ≡ Some b
      → may_vote s.marks s.view b.body.parent.view ≡ true → Told pit h i (vote_for b seal s)
      → GoodStep pit h i bodies s (vote_for b seal s)
  unfolding vote_for
  vote_good b seal s c e may told =
      let on = candidate_on s b e in
      let f = may_vote_facts s.marks s.view b.body.parent.view may in
      let sb = c.ledger.shelf b on.0 in
      let k = block_named pit h b sb in
      let cast : Voted blocks h i (block_key b) = (b.body, told.ballot b.body refl, k) in
      let entered = entered_in s (block_key b) s.seat.own seal c (subst (λ (j : ℕ). j < pit.n) (sym c.own) inside)
      (λ _. subst (λ (j : ℕ). Voted blocks h j (block_key b)) (sym c.own) cast) in
      record {
        after = record { size = c.size; own = c.own; store = refl; ledger = settled_in s _ c entered };
        marks = (subst (λ (v : ℕ). s.marks.voted < v) (sym on.1) f.0, f.1, sym on.1, refl);
        sealed = λ j q. (b.body, refl, k ∙ sealed_key (block_key b) j q);
        ballot = λ x q. subst (λ (y : Body). Among y h.shown × Backed blocks (consoles pit) h y.parent) (same_some b.body x q) (sb.shown, sb.backed);
        shown = λ x q. absent x q;
      }

  -- ---- proposals

  -- the block of a body that may be shown, put on the shelf
  body_placed : (body : Body) (g : Ledger) → Among body h.shown → body.parent.view < body.view
      → Backed blocks (consoles pit) h body.parent → SoundLedger pit h bodies g
      → SoundLedger pit h bodies (placed (fresh body (body_name body)) g)
  body_placed body g m l k s =
      placed_sound pit h bodies (fresh body (body_name body)) g (fresh_sound pit h body m l k) s

  propose_good : (s : State) (body : Body) (seal : List ℕ) → AtConsole pit h i bodies s → body.parent ≡ s.ledger.top.block
      → body.parent.view < body.view → Told pit h i (propose_body body seal s) → GoodStep pit h i bodies s (propose_body body seal s)
  unfolding propose_body
  propose_good s body seal c p l told =
      let backed : Backed blocks (consoles pit) h body.parent = subst (Backed blocks (consoles pit) h) (sym p) c.ledger.top in
      let g : SoundLedger pit h bodies (placed_if_new body s.ledger) =
      cond_both (is_held (body_key body) s.ledger.shelf) _ _ (SoundLedger pit h bodies) (λ _. c.ledger)
      (λ _. body_placed body s.ledger (told.shown body refl) l backed c.ledger) in
      record {
        after = record { size = c.size; own = c.own; store = c.store; ledger = settled_in s _ c g };
        marks = (refl, refl);
        sealed = λ k e. no_vote (body_key body) k e;
        ballot = λ b e. absent b e;
        shown = λ b e. subst (λ (x : Body). x.parent.view < x.view) (same_some body b e) l;
      }

  -- ---- messages

  -- a certificate that stands, its signers' votes being in the history
  certificate_backed : (table : Table) (s : State) (p : Proposal) → AtConsole pit h i bodies s → ReadProposal pit.n p
      → certificate_stands table s.seat.n p.certificate ≡ true → Told pit h i (take_up p s)
      → Backed blocks (consoles pit) h p.certificate.block
  unfolding take_up
  certificate_backed table s p c r e told =
      ⊎_elim
      (λ z. inl (r.on_origin (eqb-true _ _ z)))
      (λ q.
      let quorum = (and_parts (is_quorum s.seat.n p.certificate.signers.set) _ q).0 in
      inr (record {
        signers = p.certificate.signers.set;
        within = r.signers_below;
        quorum = subst T (sym (subst (λ (n : ℕ). is_quorum n p.certificate.signers.set ≡ true) c.size quorum)) tt;
        voted = λ j sound holds.
            told.relied j p.certificate.block sound
            (Memᴰ.tail (voucher (votes_for p.certificate.block) p.certificate.signers 16 j (omega (arith, sound.0, sixteen)) (eq-eqb _ _ holds)));
      }))
      (or_cases (eqb p.certificate.block.view 0) _ e)

  take_up_good : (table : Table) (s : State) (p : Proposal) → AtConsole pit h i bodies s → ReadProposal pit.n p
      → certificate_stands table s.seat.n p.certificate ≡ true → Told pit h i (take_up p s)
      → GoodStep pit h i bodies s (take_up p s)
  unfolding take_up
  take_up_good table s p c r e told =
      let backed = certificate_backed table s p c r e told in
      let parent = subst (Backed blocks (consoles pit) h) r.names_parent backed in
      let g = with_top_sound pit h bodies p.certificate _ backed (body_placed p.body s.ledger (told.shown p.body refl) r.above parent c.ledger) in
      let after = settled_in s _ c g in
      record {
        after = cond_both (eqb p.body.view s.view) _ _ (AtConsole pit h i _)
            (λ _. record { size = c.size; own = c.own; store = c.store; ledger = after })
            (λ _. record { size = c.size; own = c.own; store = c.store; ledger = after });
        marks = cond_both (eqb p.body.view s.view) _ _ (λ (w : State). MarksMove None s.marks w.marks) (λ _. (refl, refl)) (λ _. (refl, refl));
        sealed = λ k q. absent (votes_for k) q;
        ballot = λ b q. absent b q;
        shown = λ b q. subst (λ (x : Body). x.parent.view < x.view) (same_some p.body b q) r.above;
      }

  count_good : (s : State) (v : Vote) → AtConsole pit h i bodies s → v.voter < pit.n → Told pit h i (count_vote v s)
      → GoodStep pit h i bodies s (count_vote v s)
  unfolding count_vote
  count_good s v c l told =
      let entered = entered_in s v.block v.voter v.seal c l
      (λ sound. told.relied v.voter v.block sound (Memᴰ.head refl)) in
      record {
        after = record { size = c.size; own = c.own; store = c.store; ledger = settled_in s _ c entered };
        marks = (refl, refl);
        sealed = λ k q. absent (votes_for k) q;
        ballot = λ b q. absent b q;
        shown = λ b q. absent b q;
      }

  -- ---- the calls

  abbrev Good : State → Outcome → Type 0
  Good s o = Told pit h i o → GoodStep pit h i bodies s o

  clocked_at : (s : State) (t : ℕ) → AtConsole pit h i bodies s → AtConsole pit h i bodies (clocked s t)
  clocked_at s t c = record { size = c.size; own = c.own; store = c.store; ledger = c.ledger }

  -- the clock is no part of what a step keeps
  unclocked : (s : State) (t : ℕ) (o : Outcome) → GoodStep pit h i bodies (clocked s t) o → GoodStep pit h i bodies s o
  unclocked s t o g = record { after = g.after; marks = g.marks; sealed = g.sealed; ballot = g.ballot; shown = g.shown }

  -- every call but opening
  pub step_good : (table : Table) (seal : List ℕ) (s : State) (call : Call) → is_opening call ≡ false → AtConsole pit h i bodies s
      → Told pit h i (step table seal s call) → GoodStep pit h i bodies s (step table seal s call)
  step_good table seal s (opening slots) e c = absurd (both_ways true e refl)
  step_good table seal s (ticking t) e c =
      tick_ways seal s t (Good s)
      (λ r _ _. same_good _ s c)
      (λ _ _.
      turn_ways (clocked s t) (Good s)
      (λ _ _. only_good _ s _ c refl refl refl refl refl)
      (λ _ _. only_good _ s _ c refl c.store refl refl refl))
      (λ _ _.
      vote_ways seal (clocked s t) (Good s)
      (λ b on may told. unclocked s t _ (vote_good b seal (clocked s t) (clocked_at s t c) on may told))
      (λ b _ _ _. only_good _ s _ c refl c.store refl refl refl)
      (λ _ _. only_good _ s _ c refl c.store refl refl refl))
  step_good table seal s (proposing owed orders space) e c =
      propose_ways seal s owed orders space (Good s)
      (λ r _ _. same_good _ s c)
      (λ g. propose_good s (body_on_top s owed orders) seal c refl (propose_stands s owed orders space g).above_top)
  step_good table seal s (passing owed) e c = λ _. same_good _ s c
  step_good table seal s (hearing bytes) e c =
      hear_ways table s bytes (Good s)
      (λ _ _. same_good _ s c)
      (λ u _ _ _. same_good _ s c)
      (λ p _ read.
      let r = subst (λ (n : ℕ). ReadProposal n p) c.size (read_proposal s.seat.n bytes p read) in
      hear_proposal_ways table s p (Good s)
      (λ _ _ _. same_good _ s c)
      (λ _ _ _. same_good _ s c)
      (λ g _. take_up_good table s p c r (proposal_stands table s p g).certificate))
      (λ v _ read.
      let r = subst (λ (n : ℕ). ReadVote n v) c.size (read_vote s.seat.n bytes v read) in
      hear_vote_ways table s v (Good s)
      (λ _ _. same_good _ s c)
      (λ b _ _ _. same_good _ s c)
      (λ b _ _ _ _. same_good _ s c)
      (λ b _ _ _. count_good s v c r.voter_below))
