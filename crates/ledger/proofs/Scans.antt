-- Scans of the shelf: whether some slot passes a test, and a sweep of every slot.
use Rattle.std.proofs.Common.{◌≡◌, ℕ, ◌+◌, ◌<◌, ◌≤◌, Bool, true, false, cond, ◌||◌, List, [], ◌∷◌, ◌++◌, map, length, get_or, take, drop, set, is_some, Some, None, Option, refl, ap, ◌∙◌}
use Rattle.std.specs.List.{list_any}
use Rattle.std.proofs.lemmas.List.Edits.{map_over_more}
use Rattle.std.proofs.lemmas.List.{get_or_default, take_all, drop_all, append-nil}
use Rattle.rules.specs.Blocks.{Slot, some_slot, kept_above, swept}
use Rattle.shelf.specs.Slots.{beyond, lowest}

-- std's `list_any`: some slot passes the test
some_step : (b : Bool) (o : Option ℕ) (r : Bool) → r ≡ is_some o → (b || r) ≡ is_some (cond b (Some 0) (beyond 1 o))
some_step true o r e = refl
some_step false None r e = e
some_step false (Some i) r e = e

pub some_slot_any : (test : Slot → Bool) (xs : List Slot) → list_any test xs ≡ some_slot test xs
unfolding lowest
some_slot_any test [] = refl
some_slot_any test (x ∷ xs) = some_step (test x) (lowest test xs) (list_any test xs) (some_slot_any test xs)

-- a sweep, slot by slot
swept-map : (v : ℕ) (xs : List Slot) → swept v xs ≡ map (kept_above v) xs
unfolding swept
swept-map v [] = refl
swept-map v (x ∷ xs) = ap (λ ys. kept_above v x ∷ ys) (swept-map v xs)

abbrev pub SweptTo : ℕ → List Slot → List Slot → ℕ → Type 0
SweptTo v xs ys i = ys ≡ map (kept_above v) (take i xs) ++ drop i xs

pub sweep_one :
    (v : ℕ) (xs ys : List Slot) (i : ℕ) (y : Slot) →
    i < length xs →
    i < length ys → y ≡ kept_above v (get_or ys i None) → SweptTo v xs ys i → SweptTo v xs (set ys i y) (i + 1)
sweep_one v xs ys i y l k e inv =
    ap (set ys i) e ∙ map_over_more (kept_above v) xs ys i (get_or ys i None) l inv (get_or_default ys i None (get_or ys i None) k)

pub sweep_all : (v : ℕ) (xs ys : List Slot) (i : ℕ) → length xs ≤ i → SweptTo v xs ys i → ys ≡ swept v xs
sweep_all v xs ys i l inv =
    let t = take_all i xs l in
    let d = drop_all i xs l in
    let m = swept-map v xs in
    let n = append-nil (map (kept_above v) xs) in
    cc
