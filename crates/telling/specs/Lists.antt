-- Lists in words.
use Rattle.std.specs.Prelude.{ℕ, Bool, List, [], ◌∷◌, ◌++◌, codes, filter}
use Rattle.std.specs.List.{range_with_len, flat_map}

-- the items one after another, each led by the separator
abbrev pub led : List ℕ → List (List ℕ) → List ℕ
led separator items = flat_map (λ item. separator ++ item) items

-- `-` stands for no items
abbrev pub or_dash : List (List ℕ) → List (List ℕ)
or_dash [] = codes "-" ∷ []
or_dash (item ∷ items) = item ∷ items

-- of n numbers from a on, those that pass a test
unfoldable pub passing : (ℕ → Bool) → ℕ → ℕ → List ℕ
passing test a n = filter test (range_with_len a n)
