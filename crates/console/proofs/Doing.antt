-- Calls held to an outcome of the rules.
use Rattle.std.proofs.Common.{◌≡◌, ℕ, ◌/◌, ◌<◌, Bool, true, false, cond, eqb, ltb, List, [], ◌++◌, length, drop, Some, None, Option, sym, refl, ap, ◌∙◌, subst, arith}
use Rattle.std.specs.Option.{option_or}
use Rattle.std.proofs.lemmas.Bool.{cond-true, lt-ltb}
use Rattle.ledger.proofs.Lines.{fed_none}
use Rattle.ledger.proofs.Outcomes.{Settles}
use Rattle.sheets.specs.Sheet.{all_orders}
use Rattle.parts.specs.Fed.{fed}
use Rattle.parts.specs.Meaning.{Keys}
use Rattle.parts.specs.declared.store.Marks.{Marks}
use Rattle.rules.specs.Blocks.{Slot, block_key, is_held, put}
use Rattle.rules.specs.Hear.{votes_for, proposes, take_up, count_vote}
use Rattle.rules.specs.Propose.{placed_if_new, propose_body}
use Rattle.rules.specs.Settle.{enter, fresh, placed, settle, with_top}
use Rattle.rules.specs.State.{State, Ledger, or_candidate, with_candidate, with_ledger}
use Rattle.rules.specs.Step.{Answer, new, proposal, vote, Outcome, only}
use Rattle.rules.specs.Tick.{marks_voted, vote_for}
use Rattle.rules.specs.declared.block.Block.{Block}
use Rattle.wire.specs.Format.{body_key, body_name, proposal_bytes}
use Rattle.wire.specs.declared.body.Body.{Body}
use Rattle.wire.specs.declared.certificate.Certificate.{Certificate}
use Rattle.wire.specs.declared.key.Key.{Key}
use Rattle.wire.specs.declared.message.Proposal.{Proposal}
use Rattle.wire.specs.declared.message.Vote.{Vote}
use Rattle.wire.specs.declared.order.Order.{Order}
use Rattle.console.specs.Does.{After, Does}

-- the ledger over another shelf
abbrev pub with_shelf : Ledger → List Slot → Ledger
with_shelf g xs = record { shelf = xs; top = g.top; head = g.head; count = g.count }

-- the state with another candidate and another ledger
abbrev pub with_candidate_and_ledger : State → Option (List ℕ) → Ledger → State
with_candidate_and_ledger s candidate g =
    record {
      seat = s.seat;
      tick = s.tick;
      view = s.view;
      candidate = candidate;
      marks = s.marks;
      store = s.store;
      ledger = g;
    }

module _ {W : Type 0} {rule : W → Order → W} {keys : Keys} {seal : List ℕ} {w : W} {out : List ℕ} where
  -- the same outcome under another name
  pub does_as : {o p : Outcome} {after : After W} → p ≡ o → Does rule keys o seal w out after → Does rule keys p seal w out after
  does_as {after = after} e d = subst (λ (x : Outcome). Does rule keys x seal w out after) (sym e) d

  -- an answer alone: nothing was handed over or written
  pub does_only : {a b : Answer} {s t : State} → a ≡ b → s ≡ t →
      Does rule keys (only b t) seal w out (record { answer = a; state = s; handed = 0; world = w; output = out })
  does_only ea es = record { sealed = tt; answer = ea; state = es; number = refl; board = sym (fed_none rule w); output = refl }

  -- an outcome that is an answer alone
  pub does_alone : {o : Outcome} {a : Answer} {s : State} → o ≡ only a s →
      Does rule keys o seal w out (record { answer = a; state = s; handed = 0; world = w; output = out })
  does_alone e = does_as e (does_only refl refl)

-- what the ledger's functions say of settling, at the ledger that the rules have there
pub settled_at :
    {W : Type 0} (rule : W → Order → W) (w end : W) (r n : ℕ) (after g h : Ledger) →
    g ≡ h → r ≡ length (settle n g).handed → after ≡ (settle n g).ledger → end ≡ fed rule w (all_orders (settle n g).handed) →
    Settles rule w end r after (settle n h)
settled_at rule w end r n after g h e en el ew =
    subst (λ (x : Ledger). Settles rule w end r after (settle n x)) e (record { number = en; ledger = el; world = ew })

-- a vote of a console below 16 is entered
pub entered_is :
    (n : ℕ) (k : Key) (voter : ℕ) (seal : List ℕ) (g after : Ledger) →
    voter < 16 → after ≡ cond (ltb voter 16) (enter n k voter seal g) g → after ≡ enter n k voter seal g
entered_is n k voter seal g after l e = e ∙ cond-true (ltb voter 16) _ _ (lt-ltb voter 16 l)

-- the console's own vote
pub does_vote :
    {W : Type 0} (rule : W → Order → W) (keys : Keys) (b : Block) (s : State) (w end : W) (kept : Marks)
    (v : Vote) (handed : ℕ) (entered after : Ledger) →
    s.seat.own < 16 → v.block ≡ block_key b → v.voter ≡ s.seat.own →
    keys.table keys.own (votes_for (block_key b)) v.seal ≡ true → length v.seal ≡ 16 →
    kept ≡ marks_voted s.marks s.view b.body.parent.view →
    entered ≡ cond (ltb v.voter 16) (enter s.seat.n v.block v.voter v.seal s.ledger) s.ledger →
    handed ≡ length (settle s.seat.n entered).handed →
    after ≡ (settle s.seat.n entered).ledger →
    end ≡ fed rule w (all_orders (settle s.seat.n entered).handed) →
    Does rule keys (vote_for b v.seal s) v.seal w []
    (record {
      answer = vote v;
      state =
          record {
            seat = s.seat;
            tick = s.tick;
            view = s.view;
            candidate = s.candidate;
            marks = marks_voted s.marks s.view b.body.parent.view;
            store = kept;
            ledger = after;
          };
      handed = handed;
      world = end;
      output = [];
    })
unfolding vote_for
does_vote rule keys b s w end kept v handed entered after l eb ev ea sixteen em en eh el ew =
    let own : v.voter < 16 = omega arith in
    let g =
    entered_is s.seat.n v.block v.voter v.seal s.ledger entered own en
    ∙ (λ i. enter s.seat.n (eb i) (ev i) v.seal s.ledger) in
    let t = settled_at rule w end handed s.seat.n after entered (enter s.seat.n (block_key b) s.seat.own v.seal s.ledger) g eh el ew in
    record {
      sealed = (ea, sixteen);
      answer = ap vote (λ i. record { block = eb i; voter = ev i; seal = v.seal });
      state =
          λ i.
          record {
            seat = s.seat;
            tick = s.tick;
            view = s.view;
            candidate = s.candidate;
            marks = marks_voted s.marks s.view b.body.parent.view;
            store = em i;
            ledger = t.ledger i;
          };
      number = t.number;
      board = t.world;
      output = refl;
    }

-- the clock at t, with this candidate
abbrev pub clocked_with : State → ℕ → Option (List ℕ) → State
clocked_with s t candidate =
    record {
      seat = s.seat;
      tick = t;
      view = t / 2;
      candidate = candidate;
      marks = s.marks;
      store = s.store;
      ledger = s.ledger;
    }

-- ---- propose

-- the shelf with the block put on it unless it is held
pub placed_new :
    (body : Body) (k : Key) (g : Ledger) (xs : List Slot) →
    k ≡ body_key body →
    xs ≡ cond (is_held k g.shelf) g.shelf (put (fresh body k.name) g.shelf) →
    with_shelf g xs ≡ placed_if_new body g
placed_new body k g xs ek ex =
    ap (with_shelf g) (ex ∙ ap (λ (x : Key). cond (is_held x g.shelf) g.shelf (put (fresh body x.name) g.shelf)) ek)
    ∙ inside (is_held (body_key body) g.shelf)
  where
    inside : (t : Bool) → with_shelf g (cond t g.shelf (put (fresh body (body_name body)) g.shelf)) ≡ cond t g (placed (fresh body (body_name body)) g)
    inside true = refl
    inside false = refl

-- a candidate is kept
pub or_as : (c : Option (List ℕ)) (name : List ℕ) → option_or c (Some name) ≡ or_candidate c name
or_as None name = refl
or_as (Some c) name = refl

pub does_propose :
    {W : Type 0} (rule : W → Order → W) (keys : Keys) (body : Body) (k : Key) (seal : List ℕ) (s : State) (w end : W) (out wrote : List ℕ)
    (top : Certificate) (length' handed : ℕ) (candidate : Option (List ℕ)) (xs : List Slot) (after : Ledger) →
    k ≡ body_key body →
    keys.table keys.own (proposes k) seal ≡ true → length seal ≡ 16 →
    top ≡ s.ledger.top →
    length' ≡ length (proposal_bytes (record { body = body; certificate = top; seal = seal })) →
    wrote ≡ proposal_bytes (record { body = body; certificate = top; seal = seal }) ++ drop (length (proposal_bytes (record { body = body; certificate = top; seal = seal }))) out →
    xs ≡ cond (is_held k s.ledger.shelf) s.ledger.shelf (put (fresh body k.name) s.ledger.shelf) →
    handed ≡ length (settle s.seat.n (with_shelf s.ledger xs)).handed →
    after ≡ (settle s.seat.n (with_shelf s.ledger xs)).ledger →
    end ≡ fed rule w (all_orders (settle s.seat.n (with_shelf s.ledger xs)).handed) →
    candidate ≡ or_candidate s.candidate k.name →
    Does rule keys (propose_body body seal s) seal w out
    (record {
      answer = proposal length';
      state = with_candidate_and_ledger s candidate after;
      handed = handed;
      world = end;
      output = wrote;
    })
unfolding propose_body
does_propose rule keys body k seal s w end out wrote top length' handed candidate xs after ek ea sixteen et el ew ex eh eg eb ec =
    let t =
    settled_at rule w end handed s.seat.n after (with_shelf s.ledger xs) (placed_if_new body s.ledger) (placed_new body k s.ledger xs ek ex) eh eg eb in
    let bytes : Certificate → List ℕ = λ c. proposal_bytes (record { body = body; certificate = c; seal = seal }) in
    record {
      sealed = (sym (ap (λ (x : Key). keys.table keys.own (proposes x) seal) ek) ∙ ea, sixteen);
      answer = ap proposal (el ∙ ap (λ (c : Certificate). length (bytes c)) et);
      state =
          λ i.
          with_candidate_and_ledger s ((ec ∙ ap (λ (x : Key). or_candidate s.candidate x.name) ek) i) (t.ledger i);
      number = t.number;
      board = t.world;
      output = ew ∙ ap (λ (c : Certificate). bytes c ++ drop (length (bytes c)) out) et;
    }

-- ---- hear

pub does_take_up :
    {W : Type 0} (rule : W → Order → W) (keys : Keys) (p : Proposal) (k : Key) (s : State) (w end : W)
    (handed : ℕ) (candidate : Option (List ℕ)) (xs : List Slot) (raised after : Ledger) →
    k ≡ body_key p.body →
    xs ≡ put (fresh p.body k.name) s.ledger.shelf →
    raised ≡ with_top p.certificate (with_shelf s.ledger xs) →
    handed ≡ length (settle s.seat.n raised).handed →
    after ≡ (settle s.seat.n raised).ledger →
    end ≡ fed rule w (all_orders (settle s.seat.n raised).handed) →
    candidate ≡ cond (eqb p.body.view s.view) (or_candidate s.candidate k.name) s.candidate →
    Does rule keys (take_up p s) [] w []
    (record {
      answer = new;
      state = with_candidate_and_ledger s candidate after;
      handed = handed;
      world = end;
      output = [];
    })
unfolding take_up
does_take_up rule keys p k s w end handed candidate xs raised after ek ex er eh eg eb ec =
    let name = body_name p.body in
    let shelf : xs ≡ put (fresh p.body name) s.ledger.shelf =
    ex ∙ ap (λ (x : Key). put (fresh p.body x.name) s.ledger.shelf) ek in
    let t =
    settled_at rule w end handed s.seat.n after raised (with_top p.certificate (placed (fresh p.body name) s.ledger))
    (er ∙ ap (λ (x : List Slot). with_top p.certificate (with_shelf s.ledger x)) shelf) eh eg eb in
    record {
      sealed = tt;
      answer = refl;
      state =
          (λ i.
          with_candidate_and_ledger s
          ((ec ∙ ap (λ (x : Key). cond (eqb p.body.view s.view) (or_candidate s.candidate x.name) s.candidate) ek) i) (t.ledger i))
          ∙ inside (eqb p.body.view s.view) name (settle s.seat.n (with_top p.certificate (placed (fresh p.body name) s.ledger))).ledger;
      number = t.number;
      board = t.world;
      output = refl;
    }
  where
    inside : (t : Bool) (name : List ℕ) (g : Ledger) →
        with_candidate_and_ledger s (cond t (or_candidate s.candidate name) s.candidate) g ≡ cond t (with_candidate (with_ledger s g) name) (with_ledger s g)
    inside true name g = refl
    inside false name g = refl

pub does_count :
    {W : Type 0} (rule : W → Order → W) (keys : Keys) (v : Vote) (s : State) (w end : W) (handed : ℕ) (entered after : Ledger) →
    v.voter < 16 →
    entered ≡ cond (ltb v.voter 16) (enter s.seat.n v.block v.voter v.seal s.ledger) s.ledger →
    handed ≡ length (settle s.seat.n entered).handed →
    after ≡ (settle s.seat.n entered).ledger →
    end ≡ fed rule w (all_orders (settle s.seat.n entered).handed) →
    Does rule keys (count_vote v s) [] w []
    (record { answer = new; state = with_ledger s after; handed = handed; world = end; output = [] })
unfolding count_vote
does_count rule keys v s w end handed entered after l en eh eg eb =
    let t =
    settled_at rule w end handed s.seat.n after entered (enter s.seat.n v.block v.voter v.seal s.ledger)
    (entered_is s.seat.n v.block v.voter v.seal s.ledger entered l en) eh eg eb in
    record { sealed = tt; answer = refl; state = ap (with_ledger s) t.ledger; number = t.number; board = t.world; output = refl }
