-- A line of held parents still reaches the head after the head has moved along it.
use Rattle.std.proofs.Common.{◌≡◌, ℕ, zero, suc, ◌<◌, ◌≤◌, Bool, true, false, cond, ltb, ◌⊎◌, List, [], ◌∷◌, ◌++◌, Some, None, sym, refl, ap, ◌∙◌, subst, inl, inr, ⊎_elim, arith}
use Rattle.std.proofs.lemmas.Bool.{cond-true, both_ways, or_cases, or_left, or_right, lt-ltb}
use Rattle.votes.specs.Votes.{Blocks, Consoles, History, Among, Certified, Backed, Final, Lawful, Chain, Ancestor}
use Rattle.votes.proofs.Agree.{chain_push, final_ancestor, common}
use Rattle.votes.proofs.Grow.{chain_length}
use Rattle.wire.specs.Format.{body_key, same_key}
use Rattle.wire.specs.declared.body.Body.{Body}
use Rattle.wire.specs.declared.key.Key.{Key}
use Rattle.rules.specs.declared.block.Block.{Block}
use Rattle.rules.specs.Blocks.{Slot, block_key, held}
use Rattle.rules.specs.Settle.{parent_of, reaches_within}
use Rattle.rules.specs.Options.{absent}
use Rattle.sheets.specs.Sheet.{Pit}
use Rattle.safety.proofs.Histories.{blocks, consoles}
use Rattle.safety.proofs.Ledgers.{SoundShelf, block_named}
use Rattle.rules.specs.Shelves.{held_on, key_same, key_itself}

-- ---- chains from their ends

module _ (B : Blocks) (h : History B) where
  -- an ancestor is the block itself or an ancestor of its parent
  pub last_link : (xs : List B.Body) (j k : B.Key) → Chain B h j xs k
      → (j ≡ k) ⊎ ((x : B.Body) × Among x h.shown × (B.key x ≡ k) × Ancestor B h j (B.parent x))
  last_link [] j k c = inl c
  last_link (b ∷ bs) j k c = at (last_link bs (B.key b) k c.2)
    where
      at : (B.key b ≡ k) ⊎ ((x : B.Body) × Among x h.shown × (B.key x ≡ k) × Ancestor B h (B.key b) (B.parent x))
          → (j ≡ k) ⊎ ((x : B.Body) × Among x h.shown × (B.key x ≡ k) × Ancestor B h j (B.parent x))
      at (inl e) = inr (b, c.1, e, ([], sym c.0))
      at (inr x) = inr (x.0, x.1, x.2, (b ∷ x.3.0, (c.0, c.1, x.3.1)))

  -- the last body of a chain has the key that it leads to
  pub chain_last : (xs : List B.Body) (b : B.Body) (j k : B.Key) → Chain B h j (xs ++ (b ∷ [])) k → Among b h.shown × (B.key b ≡ k)
  chain_last [] b j k c = (c.1, c.2)
  chain_last (x ∷ xs) b j k c = chain_last xs b (B.key x) k c.2

  module _ (c : Consoles) (law : Lawful B c h) where
    -- what may be built on comes down to the origin
    from_origin : (m : ℕ) (k : B.Key) → Backed B c h k → B.view k < m → Ancestor B h B.origin k
    from_origin zero k b l = absurd (omega (arith, l))
    from_origin (suc m) k (inl e) l = ([], sym e)
    from_origin (suc m) k (inr s) l =
        let w = common B c h law k k s s in
        let x = w.2 in
        let shown = law.known w.0 w.1 x.0 x.1 in
        let a = from_origin m (B.parent x.0) (law.backed w.0 w.1 x.0 x.1)
        (omega (arith, l, law.descend x.0 shown, ap B.view x.2)) in
        (a.0 ++ (x.0 ∷ []), subst (λ y. Chain B h B.origin (a.0 ++ (x.0 ∷ [])) y) x.2 (chain_push B h a.0 B.origin x.0 shown a.1))

    -- a head is an ancestor of every certified key that is no older
    pub head_ancestor : (j k : B.Key) → (j ≡ B.origin) ⊎ Final B c h j → Certified B c h k → B.view j ≤ B.view k → Ancestor B h j k
    head_ancestor j k (inl e) s l = subst (λ y. Ancestor B h y k) (sym e) (from_origin (suc (B.view k)) k (inr s) (omega arith))
    head_ancestor j k (inr f) s l = final_ancestor B c h law j k f s l

-- ---- lines on two shelves

-- the block of that key is the head, or held on a line of at most n steps that reaches it
abbrev pub Lined : List Slot → Key → ℕ → Key → Type 0
Lined xs head n k = (k ≡ head) ⊎ ((p : Block) × (held k xs ≡ Some p) × (reaches_within n xs head p ≡ true))

module _ (pit : Pit) (h : History blocks) (law : Lawful blocks (consoles pit) h)
    (xs : List Slot) (sound : SoundShelf pit h xs) (old : Key) (ys : List Slot) (new : Key) (rises : old.view ≤ new.view)
    (kept : (k : Key) (b : Block) → held k xs ≡ Some b → new.view < k.view → (d : Block) × (held k ys ≡ Some d) × (d.body ≡ b.body)) where
  parent_held : (zs : List Slot) (b p : Block) → parent_of zs b ≡ Some p → held b.body.parent zs ≡ Some p
  parent_held zs b p e = at (ltb b.body.parent.view b.body.view) e
    where
      at : (t : Bool) → cond t (held b.body.parent zs) None ≡ Some p → held b.body.parent zs ≡ Some p
      at true f = f
      at false f = absent p f

  held_parent : (zs : List Slot) (b p : Block) → b.body.parent.view < b.body.view → held b.body.parent zs ≡ Some p → parent_of zs b ≡ Some p
  held_parent zs b p l e = cond-true (ltb b.body.parent.view b.body.view) (held b.body.parent zs) None (lt-ltb _ _ l) ∙ e

  -- one step down the line
  below : (n : ℕ) (p : Block) → reaches_within (suc n) xs old p ≡ true → Lined xs old n p.body.parent
  unfolding reaches_within
  below n p e = ⊎_elim (λ t. inl (key_same _ _ t)) (λ t. inr (parent (parent_of xs p) refl t)) (or_cases (same_key p.body.parent old) _ e)
    where
      parent : (o : Slot) → parent_of xs p ≡ o → elim o [ None ↦ false | Some q ↦ reaches_within n xs old q ] ≡ true
          → (q : Block) × (held p.body.parent xs ≡ Some q) × (reaches_within n xs old q ≡ true)
      parent None f t = absurd (both_ways false refl t)
      parent (Some q) f t = (q, parent_held xs p q f, t)

  meets : (m : ℕ) (b : Block) → b.body.parent ≡ new → reaches_within (suc m) ys new b ≡ true
  unfolding reaches_within
  meets m b e = or_left (same_key b.body.parent new) _ (subst (λ (k : Key). same_key b.body.parent k ≡ true) e (key_itself b.body.parent))

  climbs : (m : ℕ) (b p : Block) → parent_of ys b ≡ Some p → reaches_within m ys new p ≡ true → reaches_within (suc m) ys new b ≡ true
  unfolding reaches_within
  climbs m b p e t =
      or_right (same_key b.body.parent new) _
      (ap (λ (o : Slot). elim o [ None ↦ false | Some q ↦ reaches_within m ys new q ]) e ∙ t)

  -- a block whose parent was on the line: its parent is the new head, or held now and then, below the new head's line
  step_up : (n m : ℕ) (b : Block) → b.body.parent.view < b.body.view → Ancestor blocks h new b.body.parent → Lined xs old n b.body.parent
      → ((p q : Block) → reaches_within n xs old p ≡ true → q.body ≡ p.body → block_key p ≡ b.body.parent → p.body.parent.view < p.body.view
      → Ancestor blocks h new p.body.parent → reaches_within m ys new q ≡ true)
      → reaches_within (suc m) ys new b ≡ true
  step_up n m b l a up further =
      ⊎_elim (λ e. meets m b (sym e)) (λ x. at x (above x) up) (last_link blocks h a.0 new b.body.parent a.1)
    where
      above : (x : Body) × Among x h.shown × (body_key x ≡ b.body.parent) × Ancestor blocks h new x.parent → new.view < b.body.parent.view
      above x =
          omega (
            arith,
            chain_length blocks (consoles pit) h law.descend x.3.0 new x.0.parent x.3.1,
            law.descend x.0 x.1,
            ap (λ (k : Key). k.view) x.2,
          )

      at : (x : Body) × Among x h.shown × (body_key x ≡ b.body.parent) × Ancestor blocks h new x.parent → new.view < b.body.parent.view
          → (b.body.parent ≡ old) ⊎ ((p : Block) × (held b.body.parent xs ≡ Some p) × (reaches_within n xs old p ≡ true))
          → reaches_within (suc m) ys new b ≡ true
      at x strict (inl e) = absurd (omega (arith, strict, rises, ap (λ (k : Key). k.view) e))
      at x strict (inr y) =
          let p = y.0 in
          let d = kept b.body.parent p y.1 strict in
          let w = held_on b.body.parent xs p y.1 in
          let g = sound p w.0 in
          let same : x.0 ≡ p.body = law.apart x.0 p.body x.1 g.shown (x.2 ∙ sym w.1 ∙ sym (block_named pit h p g)) in
          climbs m b d.0 (held_parent ys b d.0 l d.1)
          (further p d.0 y.2 d.2 w.1 g.above (subst (λ (z : Body). Ancestor blocks h new z.parent) same x.3))

  no_steps : (p : Block) → reaches_within 0 xs old p ≡ true → ⊥
  unfolding reaches_within
  no_steps p e = both_ways false refl e

  -- a block whose parent was on the line reaches the new head
  pub reaches_new : (n : ℕ) (b : Block) → b.body.parent.view < b.body.view → Ancestor blocks h new b.body.parent → Lined xs old n b.body.parent
      → (m : ℕ) → b.body.view < m → reaches_within m ys new b ≡ true
  reaches_new n b l a up zero lm = absurd (omega (arith, lm))
  reaches_new zero b l a up (suc m) lm = step_up 0 m b l a up (λ p q r _ _ _ _. absurd (no_steps p r))
  reaches_new (suc n) b l a up (suc m) lm =
      step_up (suc n) m b l a up
      (λ p q r e k v anc.
      reaches_new n q (subst (λ (z : Body). z.parent.view < z.view) (sym e) v)
      (subst (λ (z : Body). Ancestor blocks h new z.parent) (sym e) anc)
      (subst (λ (z : Body). Lined xs old n z.parent) (sym e) (below n p r)) m
      (omega (arith, lm, l, ap (λ (z : Body). z.view) e, ap (λ (z : Key). z.view) k)))
