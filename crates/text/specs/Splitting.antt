-- A line as fields that are separated by single spaces.
use Rattle.std.specs.Prelude.{◌≡◌, ℕ, ◌<◌, Bool, true, false, cond, List, [], ◌∷◌, ◌++◌, length, Some, None, Option, ◌==◌, ◌≢◌}
use Rattle.std.specs.List.{AllByRecursion}
use Rattle.std.specs.Option.{option_map}
use Rattle.text.specs.declared.fields.FieldError.{FieldError}
use Rattle.text.specs.declared.fields.FieldError.TheVariants.{Missing, Empty, TooMany}
use Rattle.text.specs.declared.fields.Fields.{Fields}

-- a byte put in front of the first field
abbrev pub led : ℕ → List (List ℕ) → List (List ℕ)
led c [] = (c ∷ []) ∷ []
led c (f ∷ fs) = (c ∷ f) ∷ fs

-- a line cut at each of its spaces
abbrev pub split : List ℕ → List (List ℕ)
split [] = [] ∷ []
split (c ∷ cs) = cond (c == 32) ([] ∷ split cs) (led c (split cs))

-- fields joined by single spaces
abbrev pub joined : List (List ℕ) → List ℕ
joined [] = []
joined (f ∷ []) = f
joined (f ∷ g ∷ fs) = f ++ 32 ∷ joined (g ∷ fs)

abbrev pub Spaceless : List ℕ → Type 0
Spaceless f = AllByRecursion (λ c. c ≢ 32) f

-- the fields of a line, joined, are the line, and no field holds a space
abbrev pub SplitLaw : Type 0
SplitLaw = (line : List ℕ) → (joined (split line) ≡ line) × AllByRecursion Spaceless (split line)

-- the fields that are left, of what is left of a line: none once the last one is taken
abbrev pub left : Option (List ℕ) → List (List ℕ)
left None = []
left (Some rest) = split rest

-- the fields that a reader has before it
abbrev pub fields_left : Fields → List (List ℕ)
fields_left reader = left (option_map (λ x. x.now) reader.rest)

abbrev pub none_left : List (List ℕ) → Bool
none_left [] = true
none_left (f ∷ fs) = false

-- a field that is not empty was taken
abbrev pub Took : List (List ℕ) → List ℕ → List (List ℕ) → Type 0
Took before field after = (before ≡ field ∷ after) × (0 < length field)

-- none was taken: there was none, or the next one was empty
abbrev pub TookNone : List (List ℕ) → List (List ℕ) → FieldError → Type 0
TookNone before after Missing = (before ≡ []) × (after ≡ [])
TookNone before after Empty = before ≡ [] ∷ after
TookNone before after TooMany = ⊥

-- fields are left, and whether the first of them is empty
abbrev pub Leaves : List (List ℕ) → FieldError → Type 0
Leaves before Missing = ⊥
Leaves before Empty = (after : List (List ℕ)) × (before ≡ [] ∷ after)
Leaves before TooMany = (field : List ℕ) × (after : List (List ℕ)) × Took before field after
