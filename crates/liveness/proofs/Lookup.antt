-- What is held under a key after each change of a shelf.
use Rattle.std.proofs.Common.{◌≡◌, ℕ, ◌<◌, Bool, true, false, ltb, ◌⊎◌, List, [], ◌∷◌, length, get_or, set, is_some, Some, None, Option, sym, refl, ap, ◌∙◌, subst, inl, inr, ⊎_elim, one-add, arith, length-set}
use Rattle.std.proofs.lemmas.Bool.{cases_Bool, cond-true, cond-false, both_ways}
use Rattle.std.proofs.lemmas.Bool.Decides.{nat_tests}
use Rattle.shelf.specs.Slots.{beyond, vacant, has, blank, placed}
use Rattle.shelf.proofs.Search.{lowest_hit, lowest_miss, lowest_none}
use Rattle.wire.specs.Format.{same_key}
use Rattle.wire.specs.declared.key.Key.{Key}
use Rattle.wire.specs.declared.certificate.Signers.{Signers}
use Rattle.rules.specs.declared.block.Block.{Block}
use Rattle.rules.specs.Blocks.{On, Slot, block_key, slot_key, where_held, slot_at, held, is_held, has_room, put, kept_above, swept}
use Rattle.rules.specs.Settle.{enter, enter_slot, enter_at, joined, with_tally, top_after}
use Rattle.rules.specs.State.{Ledger}
use Rattle.rules.specs.Options.{absent, same_some}
use Rattle.rules.specs.Shelves.{key_same, key_itself, key_apart, on_set}

-- does the slot show the key?
abbrev pub shows : Key → Slot → Bool
shows k x = has same_key k (slot_key x)

pub shows_block : (k : Key) (b : Block) → block_key b ≡ k → shows k (Some b) ≡ true
shows_block k b e = subst (λ (x : Key). same_key (block_key b) x ≡ true) e (key_itself (block_key b))

pub shown_block : (k : Key) (x : Slot) → shows k x ≡ true → (b : Block) × (x ≡ Some b) × (block_key b ≡ k)
shown_block k None h = absurd (both_ways false refl h)
shown_block k (Some b) h = (b, refl, key_same (block_key b) k h)

hides_block : (k : Key) (b : Block) → (block_key b ≡ k → ⊥) → shows k (Some b) ≡ false
hides_block k b h = key_apart (block_key b) k h

-- ---- the first slot, and the rest

pub held_hit : (k : Key) (x : Slot) (xs : List Slot) → shows k x ≡ true → held k (x ∷ xs) ≡ x
held_hit k x xs e = ap (λ (o : Option ℕ). slot_at o (x ∷ xs)) (lowest_hit (shows k) x xs e)

next : (x : Slot) (xs : List Slot) (o : Option ℕ) → slot_at (beyond 1 o) (x ∷ xs) ≡ slot_at o xs
next x xs None = refl
next x xs (Some i) = ap (λ (j : ℕ). get_or (x ∷ xs) j None) (one-add i)

pub held_miss : (k : Key) (x : Slot) (xs : List Slot) → shows k x ≡ false → held k (x ∷ xs) ≡ held k xs
held_miss k x xs e =
    ap (λ (o : Option ℕ). slot_at o (x ∷ xs)) (lowest_miss (shows k) x xs e) ∙ next x xs (where_held k xs)

pub held_empty : (k : Key) → held k [] ≡ None
held_empty k = ap (λ (o : Option ℕ). slot_at o []) (lowest_none (shows k))

-- the block held in a shelf of at least one slot
held_split : (k : Key) (x : Slot) (xs : List Slot) (b : Block) → held k (x ∷ xs) ≡ Some b
    → ((shows k x ≡ true) × (x ≡ Some b) × (block_key b ≡ k)) ⊎ ((shows k x ≡ false) × (held k xs ≡ Some b))
held_split k x xs b h =
    ⊎_elim
    (λ e. let f = shown_block k x e in
    let s : x ≡ Some b = sym (held_hit k x xs e) ∙ h in
    inl (e, s, subst (λ (c : Block). block_key c ≡ k) (same_some f.0 b (sym f.1 ∙ s)) f.2))
    (λ e. inr (e, sym (held_miss k x xs e) ∙ h))
    (cases_Bool (shows k x))

-- ---- sweeping

kept_block : (v : ℕ) (b : Block) → v < b.body.view → kept_above v (Some b) ≡ Some b
kept_block v b l = cond-true (ltb v b.body.view) (Some b) None (let t : ltb v b.body.view ≡ true = grind (arith, nat_tests) in t)

kept_hides : (v : ℕ) (k : Key) (x : Slot) → shows k x ≡ false → shows k (kept_above v x) ≡ false
kept_hides v k None e = e
kept_hides v k (Some b) e =
    ⊎_elim
    (λ t. ap (shows k) (cond-true (ltb v b.body.view) (Some b) None t) ∙ e)
    (λ t. ap (shows k) (cond-false (ltb v b.body.view) (Some b) None t))
    (cases_Bool (ltb v b.body.view))

-- a block of view above v stays held
pub held_swept : (v : ℕ) (k : Key) (xs : List Slot) (b : Block) → held k xs ≡ Some b → v < k.view → held k (swept v xs) ≡ Some b
unfolding swept
held_swept v k [] b h l = h
held_swept v k (x ∷ xs) b h l =
    ⊎_elim
    (λ f.
    let low : v < b.body.view = omega (arith, l, ap (λ (j : Key). j.view) f.2) in
    let e : kept_above v x ≡ Some b = ap (kept_above v) f.1 ∙ kept_block v b low in
    held_hit k (kept_above v x) (swept v xs) (ap (shows k) e ∙ shows_block k b f.2) ∙ e)
    (λ f. held_miss k (kept_above v x) (swept v xs) (kept_hides v k x f.0) ∙ held_swept v k xs b f.1 l)
    (held_split k x xs b h)

-- ---- putting

put_blank : (c : Block) (xs : List Slot) → put c (None ∷ xs) ≡ Some c ∷ xs
put_blank c xs = ap (λ (o : Option ℕ). placed o (Some c) (None ∷ xs)) (lowest_hit (λ (r : Slot). blank (slot_key r)) None xs refl)

further : (x y : Slot) (xs : List Slot) (o : Option ℕ) → placed (beyond 1 o) y (x ∷ xs) ≡ x ∷ placed o y xs
further x y xs None = refl
further x y xs (Some i) = ap (λ (j : ℕ). set (x ∷ xs) j y) (one-add i)

put_full : (c b : Block) (xs : List Slot) → put c (Some b ∷ xs) ≡ Some b ∷ put c xs
put_full c b xs =
    ap (λ (o : Option ℕ). placed o (Some c) (Some b ∷ xs)) (lowest_miss (λ (r : Slot). blank (slot_key r)) (Some b) xs refl)
    ∙ further (Some b) (Some c) xs (vacant slot_key xs)

pub held_put : (c : Block) (k : Key) (xs : List Slot) → (block_key c ≡ k → ⊥) → held k (put c xs) ≡ held k xs
held_put c k [] n = ap (λ (o : Option ℕ). held k (placed o (Some c) [])) (lowest_none (λ (r : Slot). blank (slot_key r)))
held_put c k (None ∷ xs) n =
    ap (held k) (put_blank c xs) ∙ held_miss k (Some c) xs (hides_block k c n) ∙ sym (held_miss k None xs refl)
held_put c k (Some b ∷ xs) n =
    ap (held k) (put_full c b xs) ∙ ⊎_elim
    (λ e. held_hit k (Some b) (put c xs) e ∙ sym (held_hit k (Some b) xs e))
    (λ e. held_miss k (Some b) (put c xs) e ∙ held_put c k xs n ∙ sym (held_miss k (Some b) xs e))
    (cases_Bool (shows k (Some b)))

room_full : (b : Block) (xs : List Slot) → has_room (Some b ∷ xs) ≡ has_room xs
room_full b xs = ap is_some (lowest_miss (λ (r : Slot). blank (slot_key r)) (Some b) xs refl) ∙ at (vacant slot_key xs)
  where
    at : (o : Option ℕ) → is_some (beyond 1 o) ≡ is_some o
    at None = refl
    at (Some i) = refl

-- a new block is held if there was room
pub held_put_new : (c : Block) (xs : List Slot) → held (block_key c) xs ≡ None → has_room xs ≡ true → held (block_key c) (put c xs) ≡ Some c
held_put_new c [] h r = absurd (both_ways _ (ap is_some (lowest_none (λ (r : Slot). blank (slot_key r)))) r)
held_put_new c (None ∷ xs) h r = ap (held (block_key c)) (put_blank c xs) ∙ held_hit (block_key c) (Some c) xs (shows_block (block_key c) c refl)
held_put_new c (Some b ∷ xs) h r =
    ap (held (block_key c)) (put_full c b xs) ∙ ⊎_elim
    (λ e. absent b (sym h ∙ held_hit (block_key c) (Some b) xs e))
    (λ e. held_miss (block_key c) (Some b) (put c xs) e
    ∙ held_put_new c xs (sym (held_miss (block_key c) (Some b) xs e) ∙ h) (sym (room_full b xs) ∙ r))
    (cases_Bool (shows (block_key c) (Some b)))

-- nothing is held where nothing is found
pub unheld : (k : Key) (xs : List Slot) → is_held k xs ≡ false → held k xs ≡ None
unheld k xs e = at (where_held k xs) e
  where
    at : (o : Option ℕ) → is_some o ≡ false → slot_at o xs ≡ None
    at None f = refl
    at (Some i) f = absurd (both_ways _ f refl)

-- ---- replacing

-- the shelf with another content in the slot held under the key
abbrev pub replaced : Key → Slot → List Slot → List Slot
replaced k y xs = placed (where_held k xs) y xs

replaced_hit : (k : Key) (y x : Slot) (xs : List Slot) → shows k x ≡ true → replaced k y (x ∷ xs) ≡ y ∷ xs
replaced_hit k y x xs e = ap (λ (o : Option ℕ). placed o y (x ∷ xs)) (lowest_hit (shows k) x xs e)

replaced_miss : (k : Key) (y x : Slot) (xs : List Slot) → shows k x ≡ false → replaced k y (x ∷ xs) ≡ x ∷ replaced k y xs
replaced_miss k y x xs e =
    ap (λ (o : Option ℕ). placed o y (x ∷ xs)) (lowest_miss (shows k) x xs e) ∙ further x y xs (where_held k xs)

pub held_replaced : (k : Key) (b c : Block) (xs : List Slot) → held k xs ≡ Some b → block_key c ≡ k → held k (replaced k (Some c) xs) ≡ Some c
held_replaced k b c [] h e = absent b (sym (held_empty k) ∙ h)
held_replaced k b c (x ∷ xs) h e =
    ⊎_elim
    (λ f. ap (held k) (replaced_hit k (Some c) x xs f.0) ∙ held_hit k (Some c) xs (shows_block k c e))
    (λ f. ap (held k) (replaced_miss k (Some c) x xs f.0) ∙ held_miss k x (replaced k (Some c) xs) f.0 ∙ held_replaced k b c xs f.1 e)
    (held_split k x xs b h)

pub held_beside : (k j : Key) (c : Block) (xs : List Slot) → block_key c ≡ k → (k ≡ j → ⊥) → held j (replaced k (Some c) xs) ≡ held j xs
held_beside k j c [] e n = ap (λ (o : Option ℕ). held j (placed o (Some c) [])) (lowest_none (shows k))
held_beside k j c (x ∷ xs) e n =
    ⊎_elim
    (λ f.
    let b = shown_block k x f in
    let off : shows j x ≡ false = ap (shows j) b.1 ∙ hides_block j b.0 (λ i. n (sym b.2 ∙ i)) in
    ap (held j) (replaced_hit k (Some c) x xs f) ∙ held_miss j (Some c) xs (hides_block j c (λ i. n (sym e ∙ i))) ∙ sym (held_miss j x xs off))
    (λ f. ap (held j) (replaced_miss k (Some c) x xs f) ∙ ⊎_elim
    (λ g. held_hit j x (replaced k (Some c) xs) g ∙ sym (held_hit j x xs g))
    (λ g. held_miss j x (replaced k (Some c) xs) g ∙ held_beside k j c xs e n ∙ sym (held_miss j x xs g))
    (cases_Bool (shows j x)))
    (cases_Bool (shows k x))

pub on_replaced : (k : Key) (c d : Block) (xs : List Slot) → On d (replaced k (Some c) xs) → (d ≡ c) ⊎ On d xs
on_replaced k c d xs o = at (where_held k xs) o
  where
    at : (p : Option ℕ) → On d (placed p (Some c) xs) → (d ≡ c) ⊎ On d xs
    at None m = inr m
    at (Some i) m = on_set xs i c d m

pub length-replaced : (k : Key) (y : Slot) (xs : List Slot) → length (replaced k y xs) ≡ length xs
length-replaced k y xs = at (where_held k xs)
  where
    at : (o : Option ℕ) → length (placed o y xs) ≡ length xs
    at None = refl
    at (Some i) = length-set xs i y

-- ---- entering a vote

-- the ledger after a vote for the held block b
abbrev pub entered : ℕ → Key → ℕ → List ℕ → Block → Ledger → Ledger
entered n k voter seal b g =
    let after : Signers = joined voter seal b.tally in
    record {
      shelf = replaced k (Some (with_tally b after)) g.shelf;
      top = top_after n g.top (block_key b) b.tally after;
      head = g.head;
      count = g.count;
    }

pub enter_held : (n : ℕ) (k : Key) (voter : ℕ) (seal : List ℕ) (b : Block) (g : Ledger) → held k g.shelf ≡ Some b
    → enter n k voter seal g ≡ entered n k voter seal b g
unfolding enter enter_slot
enter_held n k voter seal b g h = at (where_held k g.shelf) h
  where
    after : Signers
    after = joined voter seal b.tally

    slot : (i : ℕ) (x : Slot) → x ≡ Some b → enter_slot n voter seal i x g ≡ enter_slot n voter seal i (Some b) g
    slot i x e = ap (λ (y : Slot). enter_slot n voter seal i y g) e

    at : (o : Option ℕ) → slot_at o g.shelf ≡ Some b
        → enter_at n voter seal o g
        ≡ record {
          shelf = placed o (Some (with_tally b (joined voter seal b.tally))) g.shelf;
          top = top_after n g.top (block_key b) b.tally (joined voter seal b.tally);
          head = g.head;
          count = g.count;
        }
    at None e = absent b e
    at (Some i) e = slot i (get_or g.shelf i None) e
