-- A search from the lowest slot up: its loop, and what it finds.
use Rattle.std.proofs.Common.{◌≡◌, ℕ, zero, suc, ◌+◌, ◌<◌, ◌≤◌, Bool, true, false, List, [], ◌∷◌, length, get_or, drop, position, Some, None, Option, sym, refl, ap, ◌∙◌, subst, ⊎_elim, add-zero, add_assoc, zero-add, one-add, arith}
use Rattle.std.proofs.lemmas.List.{at_drop_more, at_drop_all}
use Rattle.std.proofs.lemmas.Bool.Decides.{nat_tests}
use Rattle.std.proofs.lemmas.Bool.{cases_Bool, cond-true, cond-false}
use Rattle.shelf.specs.Slots.{lowest, beyond}

pub lowest_hit : {A : Type 0} (test : A → Bool) (x : A) (xs : List A) → test x ≡ true → lowest test (x ∷ xs) ≡ Some 0
unfolding lowest
lowest_hit test x xs e = cond-true (test x) _ _ e

pub lowest_miss :
    {A : Type 0} (test : A → Bool) (x : A) (xs : List A) →
    test x ≡ false → lowest test (x ∷ xs) ≡ beyond 1 (lowest test xs)
unfolding lowest
lowest_miss test x xs e = cond-false (test x) _ _ e

pub lowest_none : {A : Type 0} (test : A → Bool) → lowest test [] ≡ None
unfolding lowest
lowest_none test = refl

beyond_zero : (o : Option ℕ) → o ≡ beyond 0 o
beyond_zero None = refl
beyond_zero (Some i) = ap (λ (n : ℕ). Some n) (sym (zero-add i))

beyond_one : (n : ℕ) (o : Option ℕ) → beyond n (beyond 1 o) ≡ beyond (n + 1) o
beyond_one n None = refl
beyond_one n (Some i) = ap (λ (m : ℕ). Some m) (sym (add_assoc n 1 i))

-- `lowest` is std's `position`
pub lowest_position : {A : Type 0} (test : A → Bool) (xs : List A) → position test xs ≡ lowest test xs
lowest_position test [] = sym (lowest_none test)
lowest_position test (x ∷ xs) =
    let ih = lowest_position test xs in
    ⊎_elim
    (λ e. let h = lowest_hit test x xs e in grind (arith, nat_tests))
    (λ e. let m = lowest_miss test x xs e in grind (arith, nat_tests))
    (cases_Bool (test x))

-- the slots below `i` fail the test
abbrev pub Passed : {A : Type 0} → (A → Bool) → List A → ℕ → Type 0
Passed test xs i = lowest test xs ≡ beyond i (lowest test (drop i xs))

pub passed_none : {A : Type 0} (test : A → Bool) (xs : List A) → Passed test xs 0
passed_none test xs = beyond_zero (lowest test xs)

pub passed_more :
    {A : Type 0} (test : A → Bool) (xs : List A) (i : ℕ) (x : A) →
    i < length xs → x ≡ get_or xs i x → test x ≡ false → Passed test xs i → Passed test xs (i + 1)
passed_more test xs i x l is e inv =
    let d = at_drop_more (lowest test) xs i x l in
    let m = lowest_miss test x (drop (i + 1) xs) e in
    let b = beyond_one i (lowest test (drop (i + 1) xs)) in
    cc

pub passed_hit :
    {A : Type 0} (test : A → Bool) (xs : List A) (i : ℕ) (x : A) →
    i < length xs → x ≡ get_or xs i x → test x ≡ true → Passed test xs i → Some i ≡ lowest test xs
passed_hit test xs i x l is e inv =
    let d = at_drop_more (lowest test) xs i x l in
    let h = lowest_hit test x (drop (i + 1) xs) e in
    let z = add-zero i in
    cc

pub passed_all :
    {A : Type 0} (test : A → Bool) (xs : List A) (i : ℕ) → length xs ≤ i → Passed test xs i → None ≡ lowest test xs
passed_all test xs i l inv =
    let d = at_drop_all (lowest test) xs i l in
    let n = lowest_none test in
    cc

-- `i` is the lowest place that passes the test
abbrev pub IsLowest : {A : Type 0} → (A → Bool) → A → List A → ℕ → Type 0
IsLowest test d xs i =
    (i < length xs) × (test (get_or xs i d) ≡ true) × ((j : ℕ) → j < i → test (get_or xs j d) ≡ false)

-- the next element on
stepped :
    {A : Type 0} (test : A → Bool) (d x : A) (xs : List A) (i : ℕ) →
    test x ≡ false → IsLowest test d xs i → IsLowest test d (x ∷ xs) (suc i)
stepped {A} test d x xs i e h = (omega arith, h.1, low)
  where
    low : (j : ℕ) → j < suc i → test (get_or (x ∷ xs) j d) ≡ false
    low zero l = e
    low (suc j) l = h.2 j (omega arith)

later :
    {A : Type 0} (test : A → Bool) (d x : A) (xs : List A) (o : Option ℕ) (i : ℕ) →
    test x ≡ false → ((k : ℕ) → o ≡ Some k → IsLowest test d xs k) → beyond 1 o ≡ Some i → IsLowest test d (x ∷ xs) i
later test d x xs None i e ih h = absurd (let z : ◌≡◌ {A = ℕ} 0 1 = cc in omega arith)
later test d x xs (Some k) i e ih h =
    let s : suc k ≡ i = cc (one-add k) in
    subst (IsLowest test d (x ∷ xs)) s (stepped test d x xs k e (ih k refl))

pub lowest_found :
    {A : Type 0} (test : A → Bool) (d : A) (xs : List A) (i : ℕ) → lowest test xs ≡ Some i → IsLowest test d xs i
lowest_found test d [] i h = absurd (let n = lowest_none test in let z : ◌≡◌ {A = ℕ} 0 1 = cc in omega arith)
lowest_found test d (x ∷ xs) i h =
    ⊎_elim
    (λ e.
    let s : 0 ≡ i = cc (lowest_hit test x xs e) in
    subst (IsLowest test d (x ∷ xs)) s (omega arith, e, λ j l. absurd (omega arith)))
    (λ e. later test d x xs (lowest test xs) i e (lowest_found test d xs) (sym (lowest_miss test x xs e) ∙ h))
    (cases_Bool (test x))

pub found_lowest :
    {A : Type 0} (test : A → Bool) (d : A) (xs : List A) (i : ℕ) → IsLowest test d xs i → lowest test xs ≡ Some i
found_lowest test d [] i h = absurd (omega (arith, h.0))
found_lowest test d (x ∷ xs) zero h = lowest_hit test x xs h.1
found_lowest test d (x ∷ xs) (suc i) h =
    let ih = found_lowest test d xs i (omega (arith, h.0), h.1, λ j l. h.2 (suc j) (omega arith)) in
    let m = lowest_miss test x xs (h.2 0 (omega arith)) in
    let s = one-add i in
    cc

pub lowest_missing :
    {A : Type 0} (test : A → Bool) (d : A) (xs : List A) →
    lowest test xs ≡ None → (j : ℕ) → j < length xs → test (get_or xs j d) ≡ false
lowest_missing test d [] h j l = absurd (omega arith)
lowest_missing test d (x ∷ xs) h j l =
    ⊎_elim
    (λ e. absurd (let m = lowest_hit test x xs e in let z : ◌≡◌ {A = ℕ} 0 1 = cc in omega arith))
    (λ e. at j l e (lowest_missing test d xs (nothing (lowest test xs) (sym (lowest_miss test x xs e) ∙ h))))
    (cases_Bool (test x))
  where
    nothing : (o : Option ℕ) → beyond 1 o ≡ None → o ≡ None
    nothing None e = refl
    nothing (Some k) e = absurd (let z : ◌≡◌ {A = ℕ} 0 1 = cc in omega arith)

    at :
        (j : ℕ) →
        j < suc (length xs) →
        test x ≡ false → ((k : ℕ) → k < length xs → test (get_or xs k d) ≡ false) → test (get_or (x ∷ xs) j d) ≡ false
    at zero l e rest = e
    at (suc j) l e rest = rest j (omega arith)

pub missing_lowest :
    {A : Type 0} (test : A → Bool) (d : A) (xs : List A) →
    ((j : ℕ) → j < length xs → test (get_or xs j d) ≡ false) → lowest test xs ≡ None
missing_lowest test d [] h = lowest_none test
missing_lowest test d (x ∷ xs) h =
    let ih = missing_lowest test d xs (λ j l. h (suc j) (omega arith)) in
    let m = lowest_miss test x xs (h 0 (omega arith)) in
    cc
