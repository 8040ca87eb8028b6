-- What stands on a block shelf, and how each change of a shelf shows in it.
use Rattle.std.specs.Prelude.{◌≡◌, ℕ, zero, suc, ◌<◌, ◌≤◌, Bool, true, false, ltb, ◌⊎◌, List, [], ◌∷◌, length, get_or, replicate, is_some, Some, None, Option, ◌==◌, ◌≢◌, nat_eq, nat_lt, slice_index_or, slice_set, refl}
use Rattle.std.proofs.Common.{inl, inr, ⊎_elim, sym, ap, subst, ◌∙◌, arith, length-set, get_or-set_same, get_or-set_other}
use Rattle.std.specs.Str.{bytes_eq}
use Rattle.std.proofs.lemmas.Slice.Eq.{bytes_eq-Decides}
use Rattle.std.proofs.lemmas.List.{set_past}
use Rattle.std.proofs.lemmas.Bool.{cases_Bool, cases_eq, cases_lt, cond-true, cond-false, cond_both, both_ways, and_parts, and_from}
use Rattle.std.proofs.lemmas.Bool.Decides.{nat_tests}
use Rattle.shelf.specs.Slots.{placed as placed_at_lem, lowest, vacant, has, blank}
use Rattle.shelf.proofs.Search.{lowest_found, lowest_missing}
use Rattle.wire.specs.Format.{same_key}
use Rattle.wire.specs.declared.key.Key.{Key}
use Rattle.rules.specs.declared.block.Block.{Block}
use Rattle.rules.specs.Blocks.{Slot, On, block_key, slot_key, some_slot, where_held, slot_at, held, is_held, has_room, put, kept_above, swept}
use Rattle.rules.specs.Settle.{best, higher}
use Rattle.rules.specs.Options.{absent, same_some}

-- ---- keys

pub key_same : (a b : Key) → same_key a b ≡ true → a ≡ b
key_same a b e =
    let p = and_parts (a.view == b.view) (bytes_eq a.name b.name) e in
    let v : a.view ≡ b.view = grind (arith, nat_tests) in
    let n : a.name ≡ b.name = (bytes_eq-Decides a.name b.name).0 p.1 in
    λ i. record { view = v i; name = n i }

pub key_itself : (a : Key) → same_key a a ≡ true
key_itself a =
    let v : nat_eq a.view a.view ≡ true = grind (arith, nat_tests) in
    and_from _ _ v ((bytes_eq-Decides a.name a.name).1 refl)

pub key_apart : (a b : Key) → (a ≢ b) → same_key a b ≡ false
key_apart a b h = ⊎_elim (λ e. absurd (h (key_same a b e))) (λ e. e) (cases_Bool (same_key a b))

-- ---- what stands on a shelf

-- slot i is one of the shelf's if a block stands in it
pub inside : (xs : List Slot) (i : ℕ) (b : Block) → slice_index_or xs i None ≡ Some b → i < length xs
inside [] i b e = absent b e
inside (x ∷ xs) zero b e = omega arith
inside (x ∷ xs) (suc i) b e = omega (arith, inside xs i b e)

pub on_tail : (x : Slot) (xs : List Slot) (b : Block) → On b xs → On b (x ∷ xs)
on_tail x xs b h = (suc h.0, h.1)

-- ---- search

has_key : (k : Key) (x : Slot) (b : Block) → x ≡ Some b → has same_key k (slot_key x) ≡ true → block_key b ≡ k
has_key k None b e h = absent b e
has_key k (Some a) b e h =
    subst (λ (c : Block). block_key c ≡ k) (same_some a b e) (key_same (block_key a) k h)

has_block : (k : Key) (x : Slot) → has same_key k (slot_key x) ≡ true → (b : Block) × (x ≡ Some b) × (block_key b ≡ k)
has_block k None h = absurd (both_ways false refl h)
has_block k (Some a) h = (a, refl, key_same (block_key a) k h)

found_at : (k : Key) (xs : List Slot) (o : Option ℕ) → where_held k xs ≡ o → (b : Block) → slot_at o xs ≡ Some b
    → On b xs × (block_key b ≡ k)
found_at k xs None w b e = absent b e
found_at k xs (Some i) w b e =
    let f = lowest_found (λ r. has same_key k (slot_key r)) None xs i w in
    ((i, e), has_key k (slice_index_or xs i None) b e f.1)

-- a block held under a key stands on the shelf and has that key
pub held_on : (k : Key) (xs : List Slot) (b : Block) → held k xs ≡ Some b → On b xs × (block_key b ≡ k)
held_on k xs b e = found_at k xs (where_held k xs) refl b e

-- what stands on a shelf is held under its key, perhaps by a lower slot
pub on_held : (xs : List Slot) (b : Block) → On b xs → (c : Block) × (held (block_key b) xs ≡ Some c) × (block_key c ≡ block_key b)
on_held xs b h = at (where_held (block_key b) xs) refl
  where
    at : (o : Option ℕ) → where_held (block_key b) xs ≡ o
        → (c : Block) × (slot_at o xs ≡ Some c) × (block_key c ≡ block_key b)
    at None w =
        let m = lowest_missing (λ r. has same_key (block_key b) (slot_key r)) None xs w h.0 (inside xs h.0 b h.1) in
        let t = key_itself (block_key b) in
        absurd (both_ways _ m (ap (λ (x : Slot). has same_key (block_key b) (slot_key x)) h.1 ∙ t))
    at (Some i) w =
        let f = lowest_found (λ r. has same_key (block_key b) (slot_key r)) None xs i w in
        has_block (block_key b) (slice_index_or xs i None) f.1

-- nothing is held under a key that no block on the shelf has
pub not_held : (k : Key) (xs : List Slot) → ((b : Block) → On b xs → block_key b ≢ k) → held k xs ≡ None
not_held k xs h = at (held k xs) refl
  where
    at : (o : Slot) → held k xs ≡ o → o ≡ None
    at None e = refl
    at (Some b) e = let f = held_on k xs b e in absurd (h b f.0 f.1)

-- is_held says whether a block of that key stands on the shelf
pub is_held_on : (k : Key) (xs : List Slot) → is_held k xs ≡ true → (b : Block) × (held k xs ≡ Some b)
is_held_on k xs e = at (where_held k xs) refl e
  where
    at : (o : Option ℕ) → where_held k xs ≡ o → is_some o ≡ true → (b : Block) × (slot_at o xs ≡ Some b)
    at None w h = absurd (both_ways false refl h)
    at (Some i) w h =
        let f = has_block k (slice_index_or xs i None) (lowest_found (λ r. has same_key k (slot_key r)) None xs i w).1 in
        (f.0, f.1)

pub held_is_held : (k : Key) (xs : List Slot) (b : Block) → held k xs ≡ Some b → is_held k xs ≡ true
held_is_held k xs b e = at (where_held k xs) e
  where
    at : (o : Option ℕ) → slot_at o xs ≡ Some b → is_some o ≡ true
    at None h = absent b h
    at (Some i) h = refl

-- some slot passes a test that the empty slot fails: a block on the shelf passes it
pub some_slot_on : (test : Slot → Bool) → test None ≡ false → (xs : List Slot) → some_slot test xs ≡ true
    → (b : Block) × On b xs × (test (Some b) ≡ true)
some_slot_on test n xs e = at (lowest test xs) refl e
  where
    holds : (x : Slot) (i : ℕ) → slice_index_or xs i None ≡ x → test x ≡ true → (b : Block) × On b xs × (test (Some b) ≡ true)
    holds None i g t = absurd (both_ways _ n t)
    holds (Some b) i g t = (b, (i, g), t)

    at : (o : Option ℕ) → lowest test xs ≡ o → is_some o ≡ true → (b : Block) × On b xs × (test (Some b) ≡ true)
    at None w h = absurd (both_ways false refl h)
    at (Some i) w h = holds (slice_index_or xs i None) i refl (lowest_found test None xs i w).1

pub on_some_slot : (test : Slot → Bool) (xs : List Slot) (b : Block) → On b xs → test (Some b) ≡ true → some_slot test xs ≡ true
on_some_slot test xs b h t = at (lowest test xs) refl
  where
    at : (o : Option ℕ) → lowest test xs ≡ o → is_some o ≡ true
    at None w =
        absurd (both_ways _ (lowest_missing test None xs w h.0 (inside xs h.0 b h.1)) (ap test h.1 ∙ t))
    at (Some i) w = refl

-- ---- changes of a shelf

-- a slot that is set holds what it was given, every other what it held
pub on_set : (xs : List Slot) (i : ℕ) (b c : Block) → On c (slice_set xs i (Some b)) → (c ≡ b) ⊎ On c xs
on_set xs i b c h = ⊎_elim same other (cases_eq h.0 i)
  where
    within : i < length xs → h.0 ≡ i → (c ≡ b) ⊎ On c xs
    within l e =
        let g = get_or-set_same xs i (Some b) None l in
        let f : get_or (slice_set xs i (Some b)) i None ≡ Some c = subst (λ (j : ℕ). slice_index_or (slice_set xs i (Some b)) j None ≡ Some c) e h.1 in
        inl (cc)

    past : length xs ≤ i → (c ≡ b) ⊎ On c xs
    past l = inr (h.0, subst (λ (ys : List Slot). slice_index_or ys h.0 None ≡ Some c) (set_past xs i (Some b) l) h.1)

    same : h.0 ≡ i → (c ≡ b) ⊎ On c xs
    same e = ⊎_elim (λ l. within l e) past (cases_lt i (length xs))

    other : (h.0 ≢ i) → (c ≡ b) ⊎ On c xs
    other n = inr (h.0, sym (get_or-set_other xs i h.0 (Some b) None n) ∙ h.1)

-- what stood in another slot still stands there
pub on_set_other : (xs : List Slot) (i : ℕ) (b c : Block) → On c xs → (On c (slice_set xs i (Some b))) ⊎ (slice_index_or xs i None ≡ Some c)
on_set_other xs i b c h =
    ⊎_elim
    (λ e. inr (subst (λ (j : ℕ). slice_index_or xs j None ≡ Some c) e h.1))
    (λ n. inl (h.0, get_or-set_other xs i h.0 (Some b) None n ∙ h.1))
    (cases_eq h.0 i)

pub on_set_same : (xs : List Slot) (i : ℕ) (b c : Block) → slice_index_or xs i None ≡ Some c → On b (slice_set xs i (Some b))
on_set_same xs i b c e = (i, get_or-set_same xs i (Some b) None (inside xs i c e))

-- a shelf after a block was put on it
pub on_put : (xs : List Slot) (b c : Block) → On c (put b xs) → (c ≡ b) ⊎ On c xs
on_put xs b c h = at (vacant slot_key xs) h
  where
    at : (o : Option ℕ) → On c (placed_at_lem o (Some b) xs) → (c ≡ b) ⊎ On c xs
    at None m = inr m
    at (Some i) m = on_set xs i b c m

blank_slot : (x : Slot) → blank (slot_key x) ≡ true → x ≡ None
blank_slot None e = refl
blank_slot (Some b) e = absurd (both_ways false refl e)

-- the block put stands there if there was room, and what stood before still does
pub put_on : (xs : List Slot) (b : Block) → has_room xs ≡ true → On b (put b xs)
put_on xs b e = at (vacant slot_key xs) refl e
  where
    at : (o : Option ℕ) → vacant slot_key xs ≡ o → is_some o ≡ true → On b (placed_at_lem o (Some b) xs)
    at None w h = absurd (both_ways false refl h)
    at (Some i) w h = (i, get_or-set_same xs i (Some b) None (lowest_found (λ r. blank (slot_key r)) None xs i w).0)

pub put_keeps : (xs : List Slot) (b c : Block) → On c xs → On c (put b xs)
put_keeps xs b c h = at (vacant slot_key xs) refl
  where
    apart : (i : ℕ) → vacant slot_key xs ≡ Some i → h.0 ≢ i
    apart i w e =
        let f = blank_slot (slice_index_or xs i None) (lowest_found (λ r. blank (slot_key r)) None xs i w).1 in
        absent c (sym f ∙ subst (λ (j : ℕ). slice_index_or xs j None ≡ Some c) e h.1)

    at : (o : Option ℕ) → vacant slot_key xs ≡ o → On c (placed_at_lem o (Some b) xs)
    at None w = h
    at (Some i) w = (h.0, get_or-set_other xs i h.0 (Some b) None (apart i w) ∙ h.1)

pub length-put : (xs : List Slot) (b : Block) → length (put b xs) ≡ length xs
length-put xs b = at (vacant slot_key xs)
  where
    at : (o : Option ℕ) → length (placed_at_lem o (Some b) xs) ≡ length xs
    at None = refl
    at (Some i) = length-set xs i (Some b)

-- a swept shelf holds just the blocks of views above v
kept : (v : ℕ) (x : Slot) (b : Block) → kept_above v x ≡ Some b → (x ≡ Some b) × (v < b.body.view)
kept v None b e = absent b e
kept v (Some a) b e = at (cases_Bool (nat_lt v a.body.view))
  where
    at : (nat_lt v a.body.view ≡ true) ⊎ (nat_lt v a.body.view ≡ false) → (◌≡◌ {A = Slot} (Some a) (Some b)) × (v < b.body.view)
    at (inl t) =
        let s : ◌≡◌ {A = Slot} (Some a) (Some b) = sym (cond-true (nat_lt v a.body.view) (Some a) None t) ∙ e in
        let l : v < a.body.view = grind (arith, nat_tests) in
        (s, subst (λ (x : Block). v < x.body.view) (same_some a b s) l)
    at (inr t) = absent b (sym (cond-false (nat_lt v a.body.view) (Some a) None t) ∙ e)

swept_at : (v : ℕ) (xs : List Slot) (i : ℕ) (b : Block) → slice_index_or (swept v xs) i None ≡ Some b → (slice_index_or xs i None ≡ Some b) × (v < b.body.view)
unfolding swept
swept_at v [] i b e = absent b e
swept_at v (x ∷ xs) zero b e = kept v x b e
swept_at v (x ∷ xs) (suc i) b e = swept_at v xs i b e

pub on_swept : (v : ℕ) (xs : List Slot) (b : Block) → On b (swept v xs) → On b xs × (v < b.body.view)
on_swept v xs b h = let s = swept_at v xs h.0 b h.1 in ((h.0, s.0), s.1)

stays : (v : ℕ) (x : Slot) (b : Block) → x ≡ Some b → v < b.body.view → kept_above v x ≡ Some b
stays v x b e l =
    let t : ltb v b.body.view ≡ true = grind (arith, nat_tests) in
    ap (kept_above v) e ∙ cond-true (nat_lt v b.body.view) (Some b) None t

at_swept : (v : ℕ) (xs : List Slot) (i : ℕ) (b : Block) → slice_index_or xs i None ≡ Some b → v < b.body.view → slice_index_or (swept v xs) i None ≡ Some b
unfolding swept
at_swept v [] i b e l = absent b e
at_swept v (x ∷ xs) zero b e l = stays v x b e l
at_swept v (x ∷ xs) (suc i) b e l = at_swept v xs i b e l

pub swept_on : (v : ℕ) (xs : List Slot) (b : Block) → On b xs → v < b.body.view → On b (swept v xs)
swept_on v xs b h l = (h.0, at_swept v xs h.0 b h.1 l)

pub length-swept : (v : ℕ) (xs : List Slot) → length (swept v xs) ≡ length xs
unfolding swept
length-swept v [] = refl
length-swept v (x ∷ xs) = ap suc (length-swept v xs)

-- nothing stands on an empty shelf
none_at : (n i : ℕ) (b : Block) → slice_index_or (replicate n None) i None ≢ Some b
none_at zero i b e = absent b e
none_at (suc n) zero b e = absent b e
none_at (suc n) (suc i) b e = none_at n i b e

pub none_on : (n : ℕ) (b : Block) → On b (replicate n None) → ⊥
none_on n b h = none_at n h.0 b h.1

-- ---- the best slot

-- the higher of two slots is one of them
higher_one : (x y : Slot) (b : Block) → higher x y ≡ Some b → (x ≡ Some b) ⊎ (y ≡ Some b)
higher_one None y b e = inr e
higher_one (Some a) None b e = inl e
higher_one (Some a) (Some c) b e =
    ⊎_elim
    (λ t. inr (sym (cond-true (nat_lt a.body.view c.body.view) (Some c) (Some a) t) ∙ e))
    (λ t. inl (sym (cond-false (nat_lt a.body.view c.body.view) (Some c) (Some a) t) ∙ e))
    (cases_Bool (nat_lt a.body.view c.body.view))

-- there is a block in the slot, of view v or above
abbrev pub ReachesView : ℕ → Slot → Type 0
ReachesView v x = (b : Block) × (x ≡ Some b) × (v ≤ b.body.view)

higher_left : (x y : Slot) (v : ℕ) → ReachesView v x → ReachesView v (higher x y)
higher_left None y v h = absent h.0 h.1
higher_left (Some a) None v h = h
higher_left (Some a) (Some c) v h =
    cond_both (nat_lt a.body.view c.body.view) (Some c) (Some a) (ReachesView v)
    (λ t. let l : v ≤ c.body.view = grind (arith, nat_tests) in (c, refl, l))
    (λ t. h)

higher_right : (x y : Slot) (v : ℕ) → ReachesView v y → ReachesView v (higher x y)
higher_right None y v h = h
higher_right (Some a) None v h = absent h.0 h.1
higher_right (Some a) (Some c) v h =
    cond_both (nat_lt a.body.view c.body.view) (Some c) (Some a) (ReachesView v)
    (λ t. h)
    (λ t. let l : v ≤ a.body.view = grind (arith, nat_tests) in (a, refl, l))

-- the best slot's block stands on the shelf and passes the test
pub best_on : (p : Slot → Bool) (xs : List Slot) (b : Block) → best p xs ≡ Some b → On b xs × (p (Some b) ≡ true)
unfolding best
best_on p [] b e = absent b e
best_on p (x ∷ xs) b e = at (best_on p xs b) (cases_Bool (p x))
  where
    later : On b xs × (p (Some b) ≡ true) → On b (x ∷ xs) × (p (Some b) ≡ true)
    later r = (on_tail x xs b r.0, r.1)

    at : (best p xs ≡ Some b → On b xs × (p (Some b) ≡ true)) → (p x ≡ true) ⊎ (p x ≡ false) → On b (x ∷ xs) × (p (Some b) ≡ true)
    at ih (inl t) =
        ⊎_elim
        (λ f. ((0, f), sym (ap p f) ∙ t))
        (λ r. later (ih r))
        (higher_one x (best p xs) b (sym (cond-true (p x) (higher x (best p xs)) (best p xs) t) ∙ e))
    at ih (inr t) = later (ih (sym (cond-false (p x) (higher x (best p xs)) (best p xs) t) ∙ e))

-- and no block that passes it has a higher view
best_at : (p : Slot → Bool) (xs : List Slot) (i : ℕ) (c : Block) → slice_index_or xs i None ≡ Some c → p (Some c) ≡ true
    → ReachesView c.body.view (best p xs)
unfolding best
best_at p [] i c e t = absent c e
best_at p (x ∷ xs) zero c e t =
    let s = ap p e ∙ t in
    subst (ReachesView c.body.view) (sym (cond-true (p x) (higher x (best p xs)) (best p xs) s))
    (higher_left x (best p xs) c.body.view (c, e, omega arith))
best_at p (x ∷ xs) (suc i) c e t =
    let r = best_at p xs i c e t in
    cond_both (p x) (higher x (best p xs)) (best p xs) (ReachesView c.body.view)
    (λ _. higher_right x (best p xs) c.body.view r)
    (λ _. r)

pub on_best : (p : Slot → Bool) (xs : List Slot) (c : Block) → On c xs → p (Some c) ≡ true
    → (b : Block) × (best p xs ≡ Some b) × (c.body.view ≤ b.body.view)
on_best p xs c h t = best_at p xs h.0 c h.1 t
