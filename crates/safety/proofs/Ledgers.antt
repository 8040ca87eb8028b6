-- What holds of a sound console's ledger, and that each small change of a ledger keeps it.
use Rattle.std.proofs.Common.{◌≡◌, ℕ, zero, suc, ◌+◌, ◌^◌, ◌<◌, ◌≤◌, Bool, true, false, cond, not, ◌||◌, T, eqb, ltb, List, [], ◌∷◌, ◌++◌, length, get_or, Some, None, Option, sym, refl, ap, ◌∙◌, subst, inl, inr, ⊎_elim, add-one, arith, length-append, pow_pos}
use native.Mathlib.Nat.{div-eq_of_lt}
use Rattle.std.proofs.lemmas.List.{append-nil}
use Rattle.std.proofs.lemmas.Bool.{cond_both, both_ways, and_parts, or_cases, eqb-true}
use Rattle.votes.specs.Quorum.{Holds, is_quorum}
use Rattle.votes.specs.Votes.{History, Among, Voted, Certified, Backed, Final, Chain, Settled, Grows}
use Rattle.votes.proofs.Agree.{chain_push}
use Rattle.votes.proofs.Grow.{backed_grows, settled_grows, settled_push, settled_none}
use Rattle.votes.proofs.Sets.{holds_entered, entered_below}
use Rattle.wire.specs.Format.{body_key, body_name, signed}
use Rattle.wire.specs.Format.{same_key}
use Rattle.wire.specs.declared.body.Body.{Body}
use Rattle.wire.specs.declared.certificate.Certificate.{Certificate}
use Rattle.wire.specs.declared.certificate.Signers.{Signers}
use Rattle.wire.specs.declared.key.Key.{Key}
use Rattle.rules.specs.declared.block.Block.{Block}
use Rattle.rules.specs.Blocks.{On, Slot, block_key, some_slot, where_held, slot_at, held}
use Rattle.rules.specs.Settle.{fresh, placed, higher_certificate, with_top, joined, with_tally, completes, top_after, enter_slot, enter_at, enter, names_parent, certified, confirms, parent_of, reaches_within, line_within, line, ready, best, settle_at, settle}
use Rattle.rules.specs.State.{Ledger, empty_ledger}
use Rattle.sheets.specs.Sheet.{Pit, Sound}
use Rattle.rules.specs.Options.{absent}
use Rattle.rules.specs.Shelves.{held_on, some_slot_on, on_put, on_set, on_swept, none_on, best_on, key_same}
use Rattle.safety.proofs.Histories.{blocks, consoles}

T_true : (b : Bool) → b ≡ true → T b
T_true b e = subst T (sym e) tt

-- the empty set holds nobody
none_holds : (i : ℕ) → Holds 0 i → ⊥
none_holds i e = omega (arith, e, div-eq_of_lt (pow_pos i))

-- ---- what holds

module _ (pit : Pit) (h : History blocks) where
  -- a held block: named by its digest, shown, above a parent that may be built on, with votes that were cast
  pub record SoundBlock (b : Block) : Type 0 where
    pub named : b.name ≡ body_name b.body
    pub shown : Among b.body h.shown
    pub above : b.body.parent.view < b.body.view
    pub backed : Backed blocks (consoles pit) h b.body.parent
    pub within : b.tally.set < 2 ^ pit.n
    pub voted : (i : ℕ) → Sound pit i → Holds b.tally.set i → Voted blocks h i (block_key b)

  -- a shelf holds sound blocks only
  abbrev pub SoundShelf : List Slot → Type 0
  SoundShelf xs = (b : Block) → On b xs → SoundBlock b

  -- a ledger whose handed-over bodies are these
  pub record SoundLedger (bodies : List Body) (g : Ledger) : Type 0 where
    pub shelf : SoundShelf g.shelf
    pub top : Backed blocks (consoles pit) h g.top.block
    pub settled : Settled blocks (consoles pit) h g.head bodies
    pub counted : length bodies ≡ g.count

-- ---- a history that grows

module _ (pit : Pit) (g h : History blocks) (grows : Grows blocks g h) where
  pub block_grows : (b : Block) → SoundBlock pit g b → SoundBlock pit h b
  block_grows b s = record {
    named = s.named;
    shown = grows.shown b.body s.shown;
    above = s.above;
    backed = backed_grows blocks (consoles pit) g h grows b.body.parent s.backed;
    within = s.within;
    voted = λ i sound holds. let v = s.voted i sound holds in (v.0, grows.votes i v.0 v.1, v.2);
  }

  pub ledger_grows : (bodies : List Body) (l : Ledger) → SoundLedger pit g bodies l → SoundLedger pit h bodies l
  ledger_grows bodies l s = record {
    shelf = λ b on. block_grows b (s.shelf b on);
    top = backed_grows blocks (consoles pit) g h grows l.top.block s.top;
    settled = settled_grows blocks (consoles pit) g h grows l.head bodies s.settled;
    counted = s.counted;
  }

-- ---- small changes

module _ (pit : Pit) (h : History blocks) where
  -- opening
  pub empty_sound : (slots : ℕ) → SoundLedger pit h [] (empty_ledger slots)
  empty_sound slots = record {
    shelf = λ b on. absurd (none_on slots b on);
    top = inl refl;
    settled = settled_none blocks (consoles pit) h;
    counted = refl;
  }

  pub block_named : (b : Block) → SoundBlock pit h b → body_key b.body ≡ block_key b
  block_named b s = ap (λ (x : List ℕ). record { view = b.body.view; name = x }) (sym s.named)

  -- a key of view 1 or more that may be built on is certified
  pub backed_certified : (k : Key) → 1 ≤ k.view → Backed blocks (consoles pit) h k → Certified blocks (consoles pit) h k
  backed_certified k l (inl e) = absurd (omega (arith, l, ap (λ (x : Key). x.view) e))
  backed_certified k l (inr c) = c

  -- a tally with a quorum
  pub tally_certified : (b : Block) → SoundBlock pit h b → is_quorum pit.n b.tally.set ≡ true
      → Certified blocks (consoles pit) h (block_key b)
  tally_certified b s q = record { signers = b.tally.set; within = s.within; quorum = T_true _ q; voted = s.voted }

  -- a new block
  pub fresh_sound : (body : Body) → Among body h.shown → body.parent.view < body.view
      → Backed blocks (consoles pit) h body.parent → SoundBlock pit h (fresh body (body_name body))
  fresh_sound body m l k = record {
    named = refl;
    shown = m;
    above = l;
    backed = k;
    within = pow_pos pit.n;
    voted = λ i sound holds. absurd (none_holds i holds);
  }

  pub placed_sound : (bodies : List Body) (b : Block) (g : Ledger) → SoundBlock pit h b → SoundLedger pit h bodies g
      → SoundLedger pit h bodies (placed b g)
  placed_sound bodies b g s l = record {
    shelf = λ c on. ⊎_elim (λ e. subst (SoundBlock pit h) (sym e) s) (l.shelf c) (on_put g.shelf b c on);
    top = l.top;
    settled = l.settled;
    counted = l.counted;
  }

  higher_backed : (top new : Certificate) → Backed blocks (consoles pit) h top.block → Backed blocks (consoles pit) h new.block
      → Backed blocks (consoles pit) h (higher_certificate top new).block
  higher_backed top new t k =
      cond_both (ltb top.block.view new.block.view) new top (λ (c : Certificate). Backed blocks (consoles pit) h c.block) (λ _. k) (λ _. t)

  pub with_top_sound : (bodies : List Body) (c : Certificate) (g : Ledger) → Backed blocks (consoles pit) h c.block
      → SoundLedger pit h bodies g → SoundLedger pit h bodies (with_top c g)
  with_top_sound bodies c g k l = record {
    shelf = l.shelf;
    top = higher_backed g.top c l.top k;
    settled = l.settled;
    counted = l.counted;
  }

  -- ---- a vote enters a tally

  joined_sound : (b : Block) (voter : ℕ) (seal : List ℕ) → voter < pit.n → (Sound pit voter → Voted blocks h voter (block_key b))
      → SoundBlock pit h b → SoundBlock pit h (with_tally b (joined voter seal b.tally))
  joined_sound b voter seal l v s =
      cond_both (signed b.tally.set voter) b.tally _ (λ (t : Signers). SoundBlock pit h (with_tally b t))
      (λ _. record { named = s.named; shown = s.shown; above = s.above; backed = s.backed; within = s.within; voted = s.voted })
      (λ _. record {
        named = s.named;
        shown = s.shown;
        above = s.above;
        backed = s.backed;
        within = entered_below pit.n b.tally.set voter s.within l;
        voted = λ i sound holds.
            ⊎_elim
            (λ m. s.voted i sound m)
            (λ e. subst (λ (j : ℕ). Voted blocks h j (block_key b)) (sym e) (v (subst (Sound pit) e sound)))
            (holds_entered b.tally.set voter i holds);
      })

  top_sound : (top : Certificate) (b : Block) (after : Signers) → Backed blocks (consoles pit) h top.block
      → SoundBlock pit h (with_tally b after)
      → Backed blocks (consoles pit) h (top_after pit.n top (block_key b) b.tally after).block
  top_sound top b after t s =
      cond_both (completes pit.n b.tally after) _ top (λ (c : Certificate). Backed blocks (consoles pit) h c.block)
      (λ e.
      higher_backed top (record { block = block_key b; signers = after }) t
      (inr (tally_certified (with_tally b after) s (and_parts (not (is_quorum pit.n b.tally.set)) _ e).1)))
      (λ _. t)

  enter_slot_sound : (bodies : List Body) (voter : ℕ) (seal : List ℕ) (i : ℕ) (x : Slot) (g : Ledger) → voter < pit.n
      → ((b : Block) → x ≡ Some b → (Sound pit voter → Voted blocks h voter (block_key b)) × On b g.shelf)
      → SoundLedger pit h bodies g → SoundLedger pit h bodies (enter_slot pit.n voter seal i x g)
  unfolding enter_slot
  enter_slot_sound bodies voter seal i None g l v s = s
  enter_slot_sound bodies voter seal i (Some b) g l v s =
      let p = v b refl in
      let new = joined_sound b voter seal l p.0 (s.shelf b p.1) in
      record {
        shelf = λ c on. ⊎_elim (λ e. subst (SoundBlock pit h) (sym e) new) (s.shelf c) (on_set g.shelf i _ c on);
        top = top_sound g.top b _ s.top new;
        settled = s.settled;
        counted = s.counted;
      }

  pub enter_sound : (bodies : List Body) (k : Key) (voter : ℕ) (seal : List ℕ) (g : Ledger) → voter < pit.n
      → (Sound pit voter → Voted blocks h voter k) → SoundLedger pit h bodies g
      → SoundLedger pit h bodies (enter pit.n k voter seal g)
  unfolding enter
  enter_sound bodies k voter seal g l v s = at (where_held k g.shelf) refl
    where
      at : (o : Option ℕ) → where_held k g.shelf ≡ o → SoundLedger pit h bodies (enter_at pit.n voter seal o g)
      at None e = s
      at (Some i) e =
          enter_slot_sound bodies voter seal i (get_or g.shelf i None) g l
          (λ b f.
          let w = held_on k g.shelf b (ap (λ (o : Option ℕ). slot_at o g.shelf) e ∙ f) in
          (λ sound. subst (Voted blocks h voter) (sym w.1) (v sound), w.0))
          s

-- ---- settling

module _ (pit : Pit) (h : History blocks) (xs : List Slot) (sound : SoundShelf pit h xs) where
  -- a held block that counts as certified is
  pub certified_sound : (b : Block) → On b xs → certified pit.n xs b ≡ true → Certified blocks (consoles pit) h (block_key b)
  certified_sound b on e =
      let s = sound b on in
      ⊎_elim
      (λ q. tally_certified pit h b s q)
      (λ t.
      let c = some_slot_on (names_parent (block_key b)) refl xs t in
      let k : c.0.body.parent ≡ block_key b = key_same _ _ c.2 in
      backed_certified pit h (block_key b) (omega (arith, s.above)) (subst (Backed blocks (consoles pit) h) k (sound c.0 c.1).backed))
      (or_cases (is_quorum pit.n b.tally.set) _ e)

  -- a held block with a certified child of the next view is final
  pub confirmed_final : (b : Block) → On b xs → some_slot (confirms pit.n xs b) xs ≡ true → Final blocks (consoles pit) h (block_key b)
  confirmed_final b on e =
      let s = sound b on in
      let c = some_slot_on (confirms pit.n xs b) refl xs e in
      let child = sound c.0 c.1 in
      let p = and_parts (same_key c.0.body.parent (block_key b)) _ c.2 in
      let q = and_parts (eqb c.0.body.view (b.body.view + 1)) _ p.1 in
      let upon : c.0.body.parent ≡ block_key b = key_same _ _ p.0 in
      let next : c.0.body.view ≡ b.body.view + 1 = eqb-true _ _ q.0 in
      record {
        certified = backed_certified pit h (block_key b) (omega (arith, s.above)) (subst (Backed blocks (consoles pit) h) upon child.backed);
        child = c.0.body;
        shown = child.shown;
        upon = upon;
        next = next ∙ add-one b.body.view;
        follows = subst (Certified blocks (consoles pit) h) (sym (block_named pit h c.0 child)) (certified_sound c.0 c.1 q.1);
      }

  -- the held parent of a held block
  pub parent_on : (b p : Block) → parent_of xs b ≡ Some p → On p xs × (block_key p ≡ b.body.parent)
  parent_on b p e = held_on b.body.parent xs p (found (ltb b.body.parent.view b.body.view) e)
    where
      found : (t : Bool) → cond t (held b.body.parent xs) None ≡ Some p → held b.body.parent xs ≡ Some p
      found true f = f
      found false f = absent p f

  one_link : (b : Block) → On b xs → (bodies : List Body) (head : Key) → Chain blocks h head bodies b.body.parent
      → Chain blocks h head (bodies ++ (b.body ∷ [])) (block_key b)
  one_link b on bodies head c =
      let s = sound b on in
      subst (Chain blocks h head (bodies ++ (b.body ∷ []))) (block_named pit h b s) (chain_push blocks h bodies head b.body s.shown c)

  -- the line of held parents that reaches the head is a chain
  line_chain : (steps : ℕ) (head : Key) (b : Block) → On b xs → reaches_within steps xs head b ≡ true
      → Chain blocks h head (line_within steps xs head b) (block_key b)
  unfolding reaches_within line_within
  line_chain zero head b on e = absurd (both_ways false refl e)
  line_chain (suc steps) head b on e = at (same_key b.body.parent head) refl e (λ p. line_chain steps head p)
    where
      parents : (o : Slot) → parent_of xs b ≡ o
          → elim o [ None ↦ false | Some p ↦ reaches_within steps xs head p ] ≡ true
          → ((p : Block) → On p xs → reaches_within steps xs head p ≡ true → Chain blocks h head (line_within steps xs head p) (block_key p))
          → Chain blocks h head (elim o [ None ↦ [] | Some p ↦ line_within steps xs head p ] ++ (b.body ∷ [])) (block_key b)
      parents None f r ih = absurd (both_ways false refl r)
      parents (Some p) f r ih =
          let w = parent_on b p f in
          one_link b on (line_within steps xs head p) head (subst (Chain blocks h head (line_within steps xs head p)) w.1 (ih p w.0 r))

      at : (t : Bool) → same_key b.body.parent head ≡ t
          → (t || elim (parent_of xs b) [ None ↦ false | Some p ↦ reaches_within steps xs head p ]) ≡ true
          → ((p : Block) → On p xs → reaches_within steps xs head p ≡ true → Chain blocks h head (line_within steps xs head p) (block_key p))
          → Chain blocks h head
          (cond t [] (elim (parent_of xs b) [ None ↦ [] | Some p ↦ line_within steps xs head p ]) ++ (b.body ∷ [])) (block_key b)
      at true f r ih = one_link b on [] head (sym (key_same _ _ f))
      at false f r ih = parents (parent_of xs b) refl r ih

module _ (pit : Pit) (h : History blocks) where
  settle_at_sound : (bodies : List Body) (x : Slot) (g : Ledger)
      → ((b : Block) → x ≡ Some b → On b g.shelf × (ready pit.n g.shelf g.head (Some b) ≡ true))
      → SoundLedger pit h bodies g → SoundLedger pit h (bodies ++ (settle_at x g).handed) (settle_at x g).ledger
  unfolding settle_at
  settle_at_sound bodies None g f s = subst (λ (bs : List Body). SoundLedger pit h bs g) (sym (append-nil bodies)) s
  settle_at_sound bodies (Some b) g f s =
      let on = (f b refl).0 in
      let p = and_parts (ltb g.head.view b.body.view) _ (f b refl).1 in
      let q = and_parts (some_slot (confirms pit.n g.shelf b) g.shelf) _ p.1 in
      record {
        shelf = λ c k. s.shelf c (on_swept b.body.view g.shelf c k).0;
        top = s.top;
        settled =
            settled_push blocks (consoles pit) h g.head (block_key b) bodies _ s.settled
            (line_chain pit h g.shelf s.shelf (suc b.body.view) g.head b on q.1)
            (confirmed_final pit h g.shelf s.shelf b on q.0);
        counted = length-append bodies _ ∙ ap (λ (m : ℕ). m + length (line g.shelf g.head b)) s.counted;
      }

  pub settle_sound : (bodies : List Body) (g : Ledger) → SoundLedger pit h bodies g
      → SoundLedger pit h (bodies ++ (settle pit.n g).handed) (settle pit.n g).ledger
  unfolding settle
  settle_sound bodies g s =
      settle_at_sound bodies (best (ready pit.n g.shelf g.head) g.shelf) g
      (λ b e. best_on (ready pit.n g.shelf g.head) g.shelf b e) s
