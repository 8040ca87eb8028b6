-- Choosing the block to hand over.
use Rattle.std.proofs.Common.{◌≡◌, ℕ, ◌+◌, ◌<◌, Bool, true, false, cond, ◌&&◌, eqb, ltb, List, [], ◌∷◌, reverse, Some, None, refl, ap, ◌∙◌, ⊎_elim, arith}
use Rattle.std.proofs.lemmas.List.{reverse-append}
use Rattle.std.proofs.lemmas.List.Elements.{filter-append}
use Rattle.std.proofs.lemmas.List.Sums.{fold-append}
use Rattle.std.specs.List.{filter, fold}
use Rattle.std.proofs.lemmas.Bool.{cases_Bool, cond-false, and_parts, both_ways, ltb-true}
use Rattle.std.proofs.lemmas.Bool.Decides.{nat_tests}
use Rattle.rules.specs.Blocks.{Slot, block_key, some_slot}
use Rattle.rules.specs.Settle.{best, higher, ready, confirms, certified, reaches}
use Rattle.rules.specs.declared.block.Block.{Block}
use Rattle.rules.specs.Shelves.{best_on, key_same, on_some_slot, some_slot_on}
use Rattle.wire.specs.Format.{same_key}
use Rattle.wire.specs.declared.key.Key.{Key}
use Rattle.ledger.specs.Handed.{awaits}

best_miss : (p : Slot → Bool) (x : Slot) (xs : List Slot) → p x ≡ false → best p (x ∷ xs) ≡ best p xs
unfolding best
best_miss p x xs e = cond-false (p x) _ _ e

best_nil : (p : Slot → Bool) → best p [] ≡ None
unfolding best
best_nil p = refl

-- the fold from the last slot down
one_more : (p : Slot → Bool) (x found : Slot) → fold (λ a y. higher y a) found (filter p (x ∷ [])) ≡ cond (p x) (higher x found) found
one_more p x found = by (p x)
  where
    by : (b : Bool) → fold (λ a y. higher y a) found (cond b (x ∷ []) []) ≡ cond b (higher x found) found
    by true = refl
    by false = refl

pub best_fold : (p : Slot → Bool) (xs : List Slot) → fold (λ found x. higher x found) None (filter p (reverse xs)) ≡ best p xs
unfolding best
best_fold p [] = refl
best_fold p (x ∷ xs) =
    let raise : Slot → Slot → Slot = λ found y. higher y found in
    ap (λ l. fold raise None (filter p l)) (reverse-append (x ∷ []) xs)
    ∙ ap (fold raise None) (filter-append p (reverse xs) (x ∷ []))
    ∙ fold-append raise None (filter p (reverse xs)) (filter p (x ∷ []))
    ∙ one_more p x (fold raise None (filter p (reverse xs)))
    ∙ ap (λ a. cond (p x) (higher x a) a) (best_fold p xs)

best_none : (p : Slot → Bool) → ((x : Slot) → p x ≡ false) → (xs : List Slot) → best p xs ≡ None
best_none p h [] = best_nil p
best_none p h (x ∷ xs) = best_miss p x xs (h x) ∙ best_none p h xs

confirming :
    (n : ℕ) (xs : List Slot) (head : Key) (b c : Block) →
    head.view < b.body.view → confirms n xs b (Some c) ≡ true → awaits n xs head (Some c) ≡ true
confirming n xs head b c l e =
    let p = and_parts (same_key c.body.parent (block_key b)) (eqb c.body.view (b.body.view + 1) && certified n xs c) e in
    let q = and_parts (eqb c.body.view (b.body.view + 1)) (certified n xs c) p.1 in
    let k = ap (λ (a : Key). a.view) (key_same c.body.parent (block_key b) p.0) in
    let r = q.0 in
    let s = q.1 in
    grind (arith, nat_tests)

-- while no slot awaits, no block can be handed over
quiet :
    (n : ℕ) (xs : List Slot) (head : Key) →
    some_slot (awaits n xs head) xs ≡ false → (x : Slot) → ready n xs head x ≡ false
quiet n xs head e None = refl
quiet n xs head e (Some b) = ⊎_elim (λ t. absurd (both_ways _ e (so t))) (λ f. f) (cases_Bool (ready n xs head (Some b)))
  where
    so : ready n xs head (Some b) ≡ true → some_slot (awaits n xs head) xs ≡ true
    so t =
        let p = and_parts (ltb head.view b.body.view) (some_slot (confirms n xs b) xs && reaches xs head b) t in
        let q = and_parts (some_slot (confirms n xs b) xs) (reaches xs head b) p.1 in
        let f = some_slot_on (confirms n xs b) refl xs q.0 in
        on_some_slot (awaits n xs head) xs f.0 f.1 (confirming n xs head b f.0 (ltb-true _ _ p.0) f.2)

pub quiet_best :
    (n : ℕ) (xs : List Slot) (head : Key) →
    some_slot (awaits n xs head) xs ≡ false → best (ready n xs head) xs ≡ None
quiet_best n xs head e = best_none (ready n xs head) (quiet n xs head e) xs

-- what is chosen is above the head
pub best_above :
    (n : ℕ) (xs : List Slot) (head : Key) (b : Block) →
    best (ready n xs head) xs ≡ Some b → head.view < b.body.view
best_above n xs head b e =
    let t = (best_on (ready n xs head) xs b e).1 in
    let p = and_parts (ltb head.view b.body.view) (some_slot (confirms n xs b) xs && reaches xs head b) t in
    ltb-true _ _ p.0
