-- What an open console keeps, call by call.
use Rattle.std.proofs.Common.{◌≡◌, ℕ, ◌<◌, ◌≤◌, true, eqb, ◌⊎◌, List, length, Some, None, Option, sym, refl, ap, ◌∙◌, subst, inl, inr, ⊎_elim, arith}
use lib.ListN.{length-replicate}
use Rattle.std.proofs.lemmas.Bool.{cond_both, eqb-true, eqb-false}
use Rattle.wire.specs.Format.{body_key, body_name}
use Rattle.wire.specs.declared.body.Body.{Body}
use Rattle.wire.specs.declared.key.Key.{Key}
use Rattle.wire.specs.declared.message.Proposal.{Proposal}
use Rattle.parts.specs.declared.store.Marks.{Marks}
use Rattle.rules.specs.declared.block.Block.{Block}
use Rattle.rules.specs.Blocks.{On, block_key, held, is_held, put}
use Rattle.rules.specs.Hear.{proposes, votes_for, take_up, certificate_stands}
use Rattle.rules.specs.Pit.{leader, view_of}
use Rattle.rules.specs.Propose.{propose_body}
use Rattle.rules.specs.Settle.{settle, fresh, placed, with_top, with_tally, joined, enter}
use Rattle.rules.specs.State.{State, Seat, Ledger, opened, saved, with_ledger, with_candidate, or_candidate}
use Rattle.rules.specs.Tick.{clocked, candidate_block}
use Rattle.rules.specs.Options.{absent}
use Rattle.sheets.specs.Sheet.{Pit, Sound, Sheet}
use Rattle.sheets.specs.Sound.{Sealed}
use Rattle.rules.specs.Shelves.{held_on, on_put, length-put, none_on}
use Rattle.liveness.proofs.Live.{LiveLedger, fresh_live, empty_live, placed_live, with_top_live, entered_live, settled_live, later_live, nobody}
use Rattle.liveness.proofs.Lookup.{entered, enter_held, on_replaced, length-replaced}
use Rattle.liveness.proofs.Settling.{settled_on, settled_length}
use Rattle.liveness.proofs.Ways.{take_up_ways}

-- the leader of a key's view, if it is sound, sealed a proposal of it
abbrev pub Led : Pit → Sheet → Key → Type 0
Led pit lines k = Sound pit (leader pit.n k.view) → Sealed pit lines (leader pit.n k.view) (proposes k)

pub record Live (pit : Pit) (i : ℕ) (lines : Sheet) (s : State) : Type 0 where
  pub size : s.seat.n ≡ pit.n
  pub own : s.seat.own ≡ i
  pub slots : length s.ledger.shelf ≡ s.seat.slots
  pub clock : s.view ≡ view_of s.tick
  pub ledger : LiveLedger (pit.table i) s.seat.n (Led pit lines) s.view s.ledger
  -- a held block of the console's view means that there is a candidate
  pub chosen : (b : Block) → On b s.ledger.shelf → b.body.view ≡ s.view → (name : List ℕ) × (s.candidate ≡ Some name)
  pub candidate_led : (name : List ℕ) → s.candidate ≡ Some name → Led pit lines (record { view = s.view; name = name })

-- the block that would be voted for is held under its key
pub candidate_held : (s : State) (b : Block) → candidate_block s ≡ Some b → held (block_key b) s.ledger.shelf ≡ Some b
candidate_held s b e = at s.candidate e
  where
    at : (o : Option (List ℕ))
        → elim o [ None ↦ None | Some name ↦ held (record { view = s.view; name = name }) s.ledger.shelf ] ≡ Some b
        → held (block_key b) s.ledger.shelf ≡ Some b
    at None g = absent b g
    at (Some name) g =
        let h = held_on (record { view = s.view; name = name }) s.ledger.shelf b g in
        subst (λ (k : Key). held k s.ledger.shelf ≡ Some b) (sym h.1) g

some_candidate : (o : Option (List ℕ)) (name : List ℕ) → (x : List ℕ) × (or_candidate o name ≡ Some x)
some_candidate None name = (name, refl)
some_candidate (Some c) name = (c, refl)

which_candidate : (o : Option (List ℕ)) (name x : List ℕ) → or_candidate o name ≡ Some x → (o ≡ Some x) ⊎ (name ≡ x)
which_candidate None name x e = inr (cc)
which_candidate (Some c) name x e = inl e

module _ (pit : Pit) (i : ℕ) (lines : Sheet) where
  pub opened_live : (seat : Seat) (m : Marks) → seat.n ≡ pit.n → seat.own ≡ i → Live pit i lines (opened seat m)
  opened_live seat m e f = record {
    size = e;
    own = f;
    slots = length-replicate seat.slots None;
    clock = refl;
    ledger = empty_live (pit.table i) seat.n (Led pit lines) seat.slots 0;
    chosen = λ b o. absurd (none_on seat.slots b o);
    candidate_led = λ name e. absurd (let z : ◌≡◌ {A = ℕ} 0 1 = cc in omega arith);
  }

  pub saved_live : (s : State) (m : Marks) → Live pit i lines s → Live pit i lines (saved s m)
  saved_live s m l = record {
    size = l.size;
    own = l.own;
    slots = l.slots;
    clock = l.clock;
    ledger = l.ledger;
    chosen = l.chosen;
    candidate_led = l.candidate_led;
  }

  pub clocked_live : (s : State) (t : ℕ) → s.tick < t → Live pit i lines s → Live pit i lines (clocked s t)
  clocked_live s t lt l = record {
    size = l.size;
    own = l.own;
    slots = l.slots;
    clock = refl;
    ledger = later_live (pit.table i) s.seat.n (Led pit lines) (Led pit lines) (λ k x. x) s.view (view_of t) s.ledger rises l.ledger;
    chosen = λ b o e.
        cond_both (eqb (view_of t) s.view) s.candidate None (λ (c : Option (List ℕ)). (name : List ℕ) × (c ≡ Some name))
        (λ same. l.chosen b o (e ∙ eqb-true _ _ same))
        (λ new. absurd (let r = (l.ledger.blocks b o).reached in eqb-false (view_of t) s.view new (omega (arith, r, e, rises))));
    candidate_led = λ name.
        cond_both (eqb (view_of t) s.view) s.candidate None
        (λ (c : Option (List ℕ)). c ≡ Some name → Led pit lines (record { view = view_of t; name = name }))
        (λ same e. subst (λ (v : ℕ). Led pit lines (record { view = v; name = name })) (sym (eqb-true _ _ same)) (l.candidate_led name e))
        (λ new e. absurd (let z : ◌≡◌ {A = ℕ} 0 1 = cc in omega arith));
  }
    where
      rises : s.view ≤ view_of t
      rises = omega (arith, l.clock, lt)

  -- a ledger with the same blocks but for their tallies
  pub with_ledger_live : (s : State) (g : Ledger) → length g.shelf ≡ length s.ledger.shelf
      → LiveLedger (pit.table i) s.seat.n (Led pit lines) s.view g
      → ((b : Block) → On b g.shelf → (c : Block) × On c s.ledger.shelf × (c.body.view ≡ b.body.view))
      → Live pit i lines s → Live pit i lines (with_ledger s g)
  with_ledger_live s g e lg from l = record {
    size = l.size;
    own = l.own;
    slots = e ∙ l.slots;
    clock = l.clock;
    ledger = lg;
    chosen = λ b o h. let c = from b o in l.chosen c.0 c.1 (c.2 ∙ h);
    candidate_led = l.candidate_led;
  }

  -- a vote enters the held block's tally, and the console settles
  pub voted_live : (s : State) (k : Key) (voter : ℕ) (seal : List ℕ) (b : Block) → held k s.ledger.shelf ≡ Some b → voter < 16
      → pit.table i voter (votes_for k) seal ≡ true → Live pit i lines s
      → Live pit i lines (with_ledger s (settle s.seat.n (enter s.seat.n k voter seal s.ledger)).ledger)
  voted_live s k voter seal b h lv ok l =
      subst (λ (g : Ledger). Live pit i lines (with_ledger s (settle s.seat.n g).ledger)) (sym (enter_held n k voter seal b s.ledger h))
      (with_ledger_live s (settle n g).ledger (settled_length n g ∙ length-replaced k _ s.ledger.shelf)
      (settled_live (pit.table i) n (Led pit lines) s.view g
      (entered_live (pit.table i) n (Led pit lines) s.view k voter seal b s.ledger h lv ok l.ledger))
      (λ c o. from c (on_replaced k (with_tally b (joined voter seal b.tally)) c s.ledger.shelf (settled_on n g c o)))
      l)
    where
      n : ℕ
      n = s.seat.n

      g : Ledger
      g = entered s.seat.n k voter seal b s.ledger

      from : (c : Block) → (c ≡ with_tally b (joined voter seal b.tally)) ⊎ On c s.ledger.shelf
          → (d : Block) × On d s.ledger.shelf × (d.body.view ≡ c.body.view)
      from c (inl e) = (b, (held_on k s.ledger.shelf b h).0, ap (λ (x : Block). x.body.view) (sym e))
      from c (inr o) = (c, o, refl)

  -- a new block comes onto the shelf, and the console settles
  module _ (s : State) (body : Body) (g : Ledger)
      (len : length g.shelf ≡ length s.ledger.shelf)
      (lg : LiveLedger (pit.table i) s.seat.n (Led pit lines) s.view g)
      (from : (b : Block) → On b g.shelf → (b.body ≡ body) ⊎ On b s.ledger.shelf)
      (l : Live pit i lines s) where
    -- as the candidate, if it is of the console's view
    pub candidate_live : body.view ≡ s.view → Led pit lines (body_key body)
        → Live pit i lines (with_candidate (with_ledger s (settle s.seat.n g).ledger) (body_name body))
    candidate_live e led = record {
      size = l.size;
      own = l.own;
      slots = settled_length s.seat.n g ∙ len ∙ l.slots;
      clock = l.clock;
      ledger = settled_live (pit.table i) s.seat.n (Led pit lines) s.view g lg;
      chosen = λ b o h. some_candidate s.candidate (body_name body);
      candidate_led = λ name h. ⊎_elim (l.candidate_led name)
          (λ f. subst (λ (k : Key). Led pit lines k) (λ j. record { view = e j; name = f j }) led)
          (which_candidate s.candidate (body_name body) name h);
    }

    -- and not, if it is of another
    pub old_live : (body.view ≡ s.view → ⊥) → Live pit i lines (with_ledger s (settle s.seat.n g).ledger)
    old_live ne = record {
      size = l.size;
      own = l.own;
      slots = settled_length s.seat.n g ∙ len ∙ l.slots;
      clock = l.clock;
      ledger = settled_live (pit.table i) s.seat.n (Led pit lines) s.view g lg;
      chosen = λ b o h. ⊎_elim (λ e. absurd (ne (ap (λ (x : Body). x.view) (sym e) ∙ h))) (λ p. l.chosen b p h)
          (from b (settled_on s.seat.n g b o));
      candidate_led = l.candidate_led;
    }

  pub propose_live : (s : State) (body : Body) (seal : List ℕ) → 1 ≤ s.seat.n → body.view ≡ s.view → Led pit lines (body_key body)
      → Live pit i lines s → Live pit i lines (propose_body body seal s).state
  unfolding propose_body
  propose_live s body seal ln e led l =
      cond_both (is_held (body_key body) s.ledger.shelf) s.ledger (placed (fresh body (body_name body)) s.ledger)
      (λ (g : Ledger). Live pit i lines (with_candidate (with_ledger s (settle s.seat.n g).ledger) (body_name body)))
      (λ _. candidate_live s body s.ledger refl l.ledger (λ b o. inr o) l e led)
      (λ _. candidate_live s body (placed (fresh body (body_name body)) s.ledger) (length-put s.ledger.shelf _)
      (placed_live (pit.table i) s.seat.n (Led pit lines) s.view (fresh body (body_name body)) s.ledger
      (fresh_live (pit.table i) s.seat.n (Led pit lines) s.view (fresh body (body_name body)) refl (omega (arith, e)) led)
      (nobody s.seat.n ln) l.ledger)
      (λ b o. ⊎_elim (λ f. inl (ap (λ (x : Block). x.body) f)) (λ f. inr f) (on_put s.ledger.shelf _ b o)) l e led)

  pub take_up_live : (s : State) (p : Proposal) → 1 ≤ s.seat.n → p.body.view ≤ s.view → p.certificate.block.view ≤ s.view
      → certificate_stands (pit.table i) s.seat.n p.certificate ≡ true → Led pit lines (body_key p.body)
      → Live pit i lines s → Live pit i lines (take_up p s).state
  take_up_live s p ln le lc st led l =
      take_up_ways p s (Live pit i lines)
      (λ e. candidate_live s p.body g len lg from l e led)
      (λ e. old_live s p.body g len lg from l e)
    where
      b : Block
      b = fresh p.body (body_name p.body)

      g : Ledger
      g = with_top p.certificate (placed (fresh p.body (body_name p.body)) s.ledger)

      len : length (put (fresh p.body (body_name p.body)) s.ledger.shelf) ≡ length s.ledger.shelf
      len = length-put s.ledger.shelf (fresh p.body (body_name p.body))

      lg : LiveLedger (pit.table i) s.seat.n (Led pit lines) s.view (with_top p.certificate (placed (fresh p.body (body_name p.body)) s.ledger))
      lg = with_top_live (pit.table i) s.seat.n (Led pit lines) s.view p.certificate (placed b s.ledger) lc st
          (placed_live (pit.table i) s.seat.n (Led pit lines) s.view b s.ledger
          (fresh_live (pit.table i) s.seat.n (Led pit lines) s.view b refl le led)
          (nobody s.seat.n ln) l.ledger)

      from : (c : Block) → On c (put (fresh p.body (body_name p.body)) s.ledger.shelf) → (c.body ≡ p.body) ⊎ On c s.ledger.shelf
      from c o = ⊎_elim (λ f. inl (ap (λ (x : Block). x.body) f)) (λ f. inr f) (on_put s.ledger.shelf _ c o)
