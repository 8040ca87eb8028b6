-- Searching a table of slots from its lowest slot up, and filling one.
use Rattle.std.specs.Prelude.{ℕ, ◌+◌, ◌<◌, Bool, true, false, cond, List, [], ◌∷◌, length, Some, None, Option, slice_set}

-- a place that is `n` further on
abbrev pub beyond : ℕ → Option ℕ → Option ℕ
beyond n None = None
beyond n (Some i) = Some (n + i)

-- the lowest place whose element passes the test
unfoldable pub lowest : {A : Type 0} → (A → Bool) → List A → Option ℕ
lowest test [] = None
lowest test (x ∷ xs) = cond (test x) (Some 0) (beyond 1 (lowest test xs))

-- the key of what an option holds
abbrev pub shown : {K A : Type 0} → (A → K) → Option A → Option K
shown key None = None
shown key (Some x) = Some (key x)

-- a record has a key, or none in its empty form: has this one the key `k`?
abbrev pub has : {K : Type 0} → (K → K → Bool) → K → Option K → Bool
has alike k None = false
has alike k (Some l) = alike l k

-- is it empty?
abbrev pub blank : {K : Type 0} → Option K → Bool
blank None = true
blank (Some k) = false

-- a record sought by its key, or by none for an empty one
abbrev pub shows : {K : Type 0} → (K → K → Bool) → Option K → Option K → Bool
shows alike None o = blank o
shows alike (Some k) o = has alike k o

-- the lowest slot with the key `k`
abbrev pub find : {K R : Type 0} → (K → K → Bool) → (R → Option K) → K → List R → Option ℕ
find alike key k slots = lowest (λ r. has alike k (key r)) slots

-- the lowest empty slot
abbrev pub vacant : {K R : Type 0} → (R → Option K) → List R → Option ℕ
vacant key slots = lowest (λ r. blank (key r)) slots

-- a record written into the slot that was found, if one was
abbrev pub placed : {R : Type 0} → Option ℕ → R → List R → List R
placed None r slots = slots
placed (Some i) r slots = slice_set slots i r

-- a place that was found is one of the table's
abbrev pub Inside : {R : Type 0} → Option ℕ → List R → Type 0
Inside None slots = Unit {0}
Inside (Some i) slots = i < length slots
