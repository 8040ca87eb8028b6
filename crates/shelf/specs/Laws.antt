-- What search and placement mean, for a record with the keys `key` and the empty form `empty`.
use Rattle.std.specs.Prelude.{◌≡◌, ℕ, ◌<◌, Bool, List, length, Some, None, Option, ◌≢◌, slice_index_or}
use Rattle.shelf.specs.Slots.{find, vacant, placed}

-- exactly when
abbrev pub Iff : Type 0 → Type 0 → Type 0
Iff P Q = (P → Q) × (Q → P)

-- slot `i` shows `o` for its key, and no lower slot does
abbrev pub First : {K R : Type 0} → (R → Option K) → R → Option K → List R → ℕ → Type 0
First key empty o slots i =
    (i < length slots) × (key (slice_index_or slots i empty) ≡ o) × ((j : ℕ) → j < i → key (slice_index_or slots j empty) ≢ o)

-- no slot shows `o` for its key
abbrev pub Nowhere : {K R : Type 0} → (R → Option K) → R → Option K → List R → Type 0
Nowhere key empty o slots = (j : ℕ) → j < length slots → key (slice_index_or slots j empty) ≢ o

-- find gives the lowest slot with the key, exactly when there is one
abbrev pub Finds : {K R : Type 0} → (K → K → Bool) → (R → Option K) → R → Type 0
Finds {K} {R} alike key empty =
    (k : K) (slots : List R) →
    ((i : ℕ) → Iff (find alike key k slots ≡ Some i) (First key empty (Some k) slots i)) ×
    Iff (find alike key k slots ≡ None) (Nowhere key empty (Some k) slots)

-- vacant gives the lowest empty slot, exactly when there is one
abbrev pub FindsVacant : {K R : Type 0} → (R → Option K) → R → Type 0
FindsVacant {K} {R} key empty =
    (slots : List R) →
    ((i : ℕ) → Iff (vacant key slots ≡ Some i) (First key empty None slots i)) ×
    Iff (vacant key slots ≡ None) (Nowhere key empty None slots)

-- what is put stands in the lowest empty slot, and every other slot is as it was
abbrev pub Puts : {K R : Type 0} → (R → Option K) → R → Type 0
Puts {K} {R} key empty =
    (slots : List R) (r : R) (i : ℕ) →
    vacant key slots ≡ Some i →
    (slice_index_or (placed (Some i) r slots) i empty ≡ r) ×
    (length (placed (Some i) r slots) ≡ length slots) ×
    ((j : ℕ) → (j ≢ i) → slice_index_or (placed (Some i) r slots) j empty ≡ slice_index_or slots j empty)
