-- The laws of search and placement.
use Rattle.std.proofs.Common.{◌≡◌, ℕ, Bool, true, false, List, Some, None, Decides, Option, refl, ap, ⊎_elim, arith}
use Rattle.std.proofs.lemmas.List.{length-set, get_or-set_same, get_or-set_other}
use Rattle.std.proofs.lemmas.Bool.{cases_Bool, both_ways}
use Rattle.shelf.specs.Slots.{lowest, has, blank}
use Rattle.shelf.specs.Laws.{Iff, First, Nowhere, Finds, FindsVacant, Puts}
use Rattle.shelf.proofs.Search.{lowest_found, found_lowest, lowest_missing, missing_lowest}

fails : (b : Bool) (P : Type 0) → Decides b P → (P → ⊥) → b ≡ false
fails b P d h = ⊎_elim (λ e. absurd (h (d.0 e))) (λ e. e) (cases_Bool b)

-- a test that decides whether a record shows `o` for its key
abbrev Shows : {K R : Type 0} → (R → Option K) → Option K → (R → Bool) → Type 0
Shows {K} {R} key o test = (r : R) → Decides (test r) (key r ≡ o)

lowest_law :
    {K R : Type 0} (key : R → Option K) (empty : R) (o : Option K) (test : R → Bool) →
    Shows key o test →
    (slots : List R) →
    ((i : ℕ) → Iff (lowest test slots ≡ Some i) (First key empty o slots i)) ×
    Iff (lowest test slots ≡ None) (Nowhere key empty o slots)
lowest_law {K} {R} key empty o test d slots = (
  λ i. (
    λ e.
        let f = lowest_found test empty slots i e in
        (f.0, (d _).0 f.1, λ j l h. both_ways _ (f.2 j l) ((d _).1 h)),
    λ f. found_lowest test empty slots i (f.0, (d _).1 f.1, λ j l. fails _ _ (d _) (f.2 j l)),
  ),
  (
    λ e j l h. both_ways _ (lowest_missing test empty slots e j l) ((d _).1 h),
    λ n. missing_lowest test empty slots (λ j l. fails _ _ (d _) (n j l)),
  ),
)

pub finds :
    {K R : Type 0} (alike : K → K → Bool) (key : R → Option K) (empty : R) →
    ((a b : K) → alike a b ≡ true → a ≡ b) → ((a : K) → alike a a ≡ true) → Finds alike key empty
finds {K} {R} alike key empty equal itself k slots =
    lowest_law key empty (Some k) (λ r. has alike k (key r)) (λ r. shows (key r)) slots
  where
    shows : (o : Option K) → Decides (has alike k o) (o ≡ Some k)
    shows None = (λ e. absurd (both_ways false refl e), λ e. absurd (let z : ◌≡◌ {A = ℕ} 0 1 = cc in omega arith))
    shows (Some a) = (λ e. ap (λ (x : K). Some x) (equal a k e), λ e. let s : a ≡ k = cc in let i = itself a in cc)

pub finds_vacant : {K R : Type 0} (key : R → Option K) (empty : R) → FindsVacant key empty
finds_vacant {K} {R} key empty slots = lowest_law key empty None (λ r. blank (key r)) (λ r. shows (key r)) slots
  where
    shows : (o : Option K) → Decides (blank o) (o ≡ None)
    shows None = (λ e. refl, λ e. refl)
    shows (Some a) = (λ e. absurd (both_ways false refl e), λ e. absurd (let z : ◌≡◌ {A = ℕ} 0 1 = cc in omega arith))

pub puts : {K R : Type 0} (key : R → Option K) (empty : R) → Puts key empty
puts key empty slots r i e = (
  get_or-set_same slots i r empty (lowest_found _ empty slots i e).0,
  length-set slots i r,
  λ j n. get_or-set_other slots i j r empty n,
)
