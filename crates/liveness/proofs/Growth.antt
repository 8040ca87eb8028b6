-- How an open console grows, as long as it is not opened again: its clock, top certificate and head rise, and what
-- it holds above its head it goes on holding, with a tally that grows.
use Rattle.std.proofs.Common.{◌≡◌, ℕ, ◌^◌, ◌<◌, ◌≤◌, true, false, ◌⊎◌, List, Some, sym, refl, ◌∙◌, subst, inl, inr, ⊎_elim, arith}
use Rattle.std.proofs.lemmas.Bool.{cond_both, both_ways, cases_Bool}
use Rattle.votes.specs.Quorum.{Holds}
use Rattle.votes.proofs.Sets.{or_holds_left}
use Rattle.wire.specs.Format.{body_key, body_name, signed, same_key}
use Rattle.wire.specs.declared.body.Body.{Body}
use Rattle.wire.specs.declared.certificate.Certificate.{Certificate}
use Rattle.wire.specs.declared.certificate.Signers.{Signers}
use Rattle.wire.specs.declared.key.Key.{Key}
use Rattle.rules.specs.declared.block.Block.{Block}
use Rattle.rules.specs.Blocks.{block_key, held, is_held}
use Rattle.rules.specs.Call.{Call, opening, ticking, proposing, passing, hearing, step}
use Rattle.rules.specs.Hear.{take_up, count_vote}
use Rattle.rules.specs.Propose.{propose_body, body_on_top, placed_if_new}
use Rattle.rules.specs.Settle.{settle, fresh, placed, with_top, with_tally, joined, enter}
use Rattle.rules.specs.State.{State, Ledger, Table}
use Rattle.rules.specs.Step.{Answer, Outcome, only}
use Rattle.rules.specs.Tick.{clocked, vote_for}
use Rattle.rules.specs.Options.{same_some}
use Rattle.sheets.specs.Sheet.{is_opening}
use Rattle.rules.specs.Shelves.{held_is_held, held_on as found, key_same, key_itself}
use Rattle.liveness.proofs.Live.{higher_above, top_rises}
use Rattle.liveness.proofs.Lookup.{entered, enter_held, held_put, held_replaced, held_beside}
use Rattle.liveness.proofs.Settling.{settled_held, settled_head, settled_top}
use Rattle.liveness.proofs.States.{candidate_held}
use Rattle.liveness.proofs.Ways.{tick_ways, propose_ways, hear_ways, taken_up, take_up_ways}

-- ---- ledgers

-- block c is block b with perhaps more votes
pub record More (b c : Block) : Type 0 where
  pub body : c.body ≡ b.body
  pub votes : (j : ℕ) → Holds b.tally.set j → Holds c.tally.set j

pub record LedgerGrows (g h : Ledger) : Type 0 where
  pub top : g.top.block.view ≤ h.top.block.view
  pub head : g.head.view ≤ h.head.view
  pub held_on : (k : Key) (b : Block) → held k g.shelf ≡ Some b → h.head.view < k.view
      → (c : Block) × (held k h.shelf ≡ Some c) × More b c

same_block : (b : Block) → More b b
same_block b = record { body = refl; votes = λ j h. h }

ledger_same : (g : Ledger) → LedgerGrows g g
ledger_same g = record { top = omega arith; head = omega arith; held_on = λ k b h l. (b, h, same_block b) }

ledger_on : (f g h : Ledger) → LedgerGrows f g → LedgerGrows g h → LedgerGrows f h
ledger_on f g h p q = record {
  top = omega (arith, p.top, q.top);
  head = omega (arith, p.head, q.head);
  held_on = λ k b e l.
      let c = p.held_on k b e (omega (arith, q.head, l)) in
      let d = q.held_on k c.0 c.1 l in
      (d.0, d.1, record { body = d.2.body ∙ c.2.body; votes = λ j m. d.2.votes j (c.2.votes j m) });
}

placed_grows : (b : Block) (g : Ledger) → is_held (block_key b) g.shelf ≡ false → LedgerGrows g (placed b g)
placed_grows b g n = record {
  top = omega arith;
  head = omega arith;
  held_on = λ k c h l. (
    c,
    held_put b k g.shelf
        (λ e. both_ways _ n (held_is_held (block_key b) g.shelf c (subst (λ (j : Key). held j g.shelf ≡ Some c) (sym e) h))) ∙ h,
    same_block c,
  );
}

with_top_grows : (c : Certificate) (g : Ledger) → LedgerGrows g (with_top c g)
with_top_grows c g = record { top = (higher_above g.top c).0; head = omega arith; held_on = λ k b h l. (b, h, same_block b) }

pub joined_more : (b : Block) (voter : ℕ) (seal : List ℕ) → More b (with_tally b (joined voter seal b.tally))
joined_more b voter seal = record {
  body = refl;
  votes = λ j h.
      cond_both (signed b.tally.set voter) b.tally _ (λ (t : Signers). Holds t.set j)
      (λ _. h) (λ _. or_holds_left b.tally.set (2 ^ voter) j h);
}

same_key_or_not : (j k : Key) → (j ≡ k) ⊎ (j ≡ k → ⊥)
same_key_or_not j k = ⊎_elim (λ e. inl (key_same j k e))
    (λ e. inr (λ f. both_ways _ e (subst (λ (x : Key). same_key j x ≡ true) f (key_itself j)))) (cases_Bool (same_key j k))

entered_grows : (n : ℕ) (k : Key) (voter : ℕ) (seal : List ℕ) (b : Block) (g : Ledger) → held k g.shelf ≡ Some b
    → LedgerGrows g (entered n k voter seal b g)
entered_grows n k voter seal b g h = record {
  top = top_rises n g.top b (joined voter seal b.tally);
  head = omega arith;
  held_on = λ j c e l. at j c e (same_key_or_not k j);
}
  where
    new : Block
    new = with_tally b (joined voter seal b.tally)

    named : block_key b ≡ k
    named = (found k g.shelf b h).1

    at : (j : Key) (c : Block) → held j g.shelf ≡ Some c → (k ≡ j) ⊎ (k ≡ j → ⊥)
        → (d : Block) × (held j (entered n k voter seal b g).shelf ≡ Some d) × More c d
    at j c e (inl f) =
        let same : b ≡ c = same_some b c (sym h ∙ subst (λ (x : Key). held x g.shelf ≡ Some c) (sym f) e) in (
          with_tally b (joined voter seal b.tally),
          subst (λ (x : Key). held x (entered n k voter seal b g).shelf ≡ Some (with_tally b (joined voter seal b.tally))) f
              (held_replaced k b (with_tally b (joined voter seal b.tally)) g.shelf h named),
          subst (λ (x : Block). More x (with_tally b (joined voter seal b.tally))) same (joined_more b voter seal),
        )
    at j c e (inr f) = (c, held_beside k j (with_tally b (joined voter seal b.tally)) g.shelf named f ∙ e, same_block c)

settled_grows : (n : ℕ) (g : Ledger) → LedgerGrows g (settle n g).ledger
settled_grows n g = record {
  top = subst (λ (c : Certificate). g.top.block.view ≤ c.block.view) (sym (settled_top n g)) (omega arith);
  head = settled_head n g;
  held_on = λ k b h l. (b, settled_held n g k b h l, same_block b);
}

-- ---- states

pub record Grows (s t : State) : Type 0 where
  pub seat : t.seat ≡ s.seat
  pub tick : s.tick ≤ t.tick
  pub ledger : LedgerGrows s.ledger t.ledger

pub grows_same : (s : State) → Grows s s
grows_same s = record { seat = refl; tick = omega arith; ledger = ledger_same s.ledger }

pub grows_on : (s t u : State) → Grows s t → Grows t u → Grows s u
grows_on s t u p q = record {
  seat = q.seat ∙ p.seat;
  tick = omega (arith, p.tick, q.tick);
  ledger = ledger_on s.ledger t.ledger u.ledger p.ledger q.ledger;
}

-- the ledger is left as it was, or something is added to it and it is settled
abbrev pub Ends : State → Outcome → Type 0
Ends s o =
    (o.state.ledger ≡ s.ledger)
    ⊎ ((g : Ledger) × (o.state.ledger ≡ (settle s.seat.n g).ledger) × (o.handed ≡ (settle s.seat.n g).handed)
    × LedgerGrows s.ledger g × (g.head ≡ s.ledger.head))

-- a call that is no opening: the seat stays, the clock does not fall
pub record GoesOn (s : State) (o : Outcome) : Type 0 where
  pub seat : o.state.seat ≡ s.seat
  pub tick : s.tick ≤ o.state.tick
  pub ends : Ends s o

unmoved : (s : State) (a : Answer) → GoesOn s (only a s)
unmoved s a = record { seat = refl; tick = omega arith; ends = inl refl }

entering : (s : State) (k : Key) (voter : ℕ) (seal : List ℕ) (b : Block) → held k s.ledger.shelf ≡ Some b
    → LedgerGrows s.ledger (enter s.seat.n k voter seal s.ledger) × ((enter s.seat.n k voter seal s.ledger).head ≡ s.ledger.head)
entering s k voter seal b h =
    subst (λ (x : Ledger). LedgerGrows s.ledger x × (x.head ≡ s.ledger.head)) (sym (enter_held s.seat.n k voter seal b s.ledger h))
    (entered_grows s.seat.n k voter seal b s.ledger h, refl)

placing : (body : Body) (g : Ledger) → LedgerGrows g (placed_if_new body g) × ((placed_if_new body g).head ≡ g.head)
placing body g =
    cond_both (is_held (body_key body) g.shelf) g (placed (fresh body (body_name body)) g) (λ (x : Ledger). LedgerGrows g x × (x.head ≡ g.head))
    (λ _. (ledger_same g, refl)) (λ e. (placed_grows (fresh body (body_name body)) g e, refl))

pub step_on : (table : Table) (seal : List ℕ) (s : State) (call : Call) → is_opening call ≡ false → GoesOn s (step table seal s call)
unfolding vote_for propose_body take_up count_vote
step_on table seal s (opening slots) e = absurd (both_ways _ e refl)
step_on table seal s (ticking t) e =
    tick_ways seal s t (GoesOn s) (λ r _. unmoved s _)
    (λ u. record { seat = refl; tick = omega (arith, u.taken.later); ends = inl refl })
    (λ u. record { seat = refl; tick = omega (arith, u.later); ends = inl refl })
    (λ b c.
    let x = entering s (block_key b) s.seat.own seal b (candidate_held (clocked s t) b c.choice) in
    record { seat = refl; tick = omega (arith, c.taken.later); ends = inr (_, refl, refl, x.0, x.1) })
step_on table seal s (proposing owed orders space) e =
    propose_ways seal s owed orders space (GoesOn s) (λ r. unmoved s _)
    (λ w.
    let x = placing (body_on_top s owed orders) s.ledger in
    record { seat = refl; tick = omega arith; ends = inr (placed_if_new (body_on_top s owed orders) s.ledger, refl, refl, x.0, x.1) })
step_on table seal s (passing owed) e = unmoved s _
step_on table seal s (hearing bytes) e =
    hear_ways table s bytes (GoesOn s) (λ r. unmoved s _) (unmoved s _)
    (λ p w.
    let b = fresh p.body (body_name p.body) in
    record {
      seat = take_up_ways p s (λ (x : State). x.seat ≡ s.seat) (λ _. refl) (λ _. refl);
      tick = take_up_ways p s (λ (x : State). s.tick ≤ x.tick) (λ _. omega arith) (λ _. omega arith);
      ends = inr (
        with_top p.certificate (placed b s.ledger),
        take_up_ways p s (λ (x : State). x.ledger ≡ taken_up p s) (λ _. refl) (λ _. refl),
        refl,
        ledger_on _ _ _ (placed_grows b s.ledger w.unheld) (with_top_grows p.certificate (placed b s.ledger)),
        refl,
      );
    })
    (λ x b w.
    let y = entering s x.block x.voter x.seal b w.holds in
    record { seat = refl; tick = omega arith; ends = inr (_, refl, refl, y.0, y.1) })

pub goes_grows : (s : State) (o : Outcome) → GoesOn s o → Grows s o.state
goes_grows s o g = record { seat = g.seat; tick = g.tick; ledger = at g.ends }
  where
    at : Ends s o → LedgerGrows s.ledger o.state.ledger
    at (inl e) = subst (LedgerGrows s.ledger) (sym e) (ledger_same s.ledger)
    at (inr x) = subst (LedgerGrows s.ledger) (sym x.1) (ledger_on s.ledger x.0 _ x.3 (settled_grows s.seat.n x.0))
