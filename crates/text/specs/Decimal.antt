-- Numbers as a field of decimal digits.
use Rattle.std.specs.Prelude.{◌≡◌, ℕ, ◌+◌, ◌-◌, ◌*◌, ◌^◌, ◌<◌, ◌≤◌, List, [], ◌∷◌, length, Ok, Err, decimal, Result}
use Rattle.std.specs.List.{AllByRecursion}
use Rattle.text.specs.declared.number.NumberError.{NumberError}
use Rattle.text.specs.declared.number.NumberError.TheVariants.{NotDigits, Above}

-- each is a digit `0` to `9`
abbrev pub Digits : List ℕ → Type 0
Digits ds = AllByRecursion (λ c. (48 ≤ c) × (c ≤ 57)) ds

-- the number that these digits denote, after n was read
abbrev pub value_after : ℕ → List ℕ → ℕ
value_after n [] = n
value_after n (c ∷ cs) = value_after (n * 10 + (c - 48)) cs

abbrev pub value : List ℕ → ℕ
value ds = value_after 0 ds

-- one or more digits, leading zeros allowed
abbrev pub Numeral : List ℕ → Type 0
Numeral ds = (0 < length ds) × Digits ds

-- what reading a field answers: the number if it is one and at most the highest allowed, else which of the two fails
abbrev pub NumberRead : List ℕ → ℕ → Result ℕ NumberError → Type 0
NumberRead field highest (Ok n) = Numeral field × (value field ≡ n) × (n ≤ highest)
NumberRead field highest (Err NotDigits) = Numeral field → ⊥
NumberRead field highest (Err (Above bound)) = (bound ≡ highest) × Numeral field × (highest < value field)

-- what is written of a number (its digits with no leading zero, `decimal n`) is a numeral and reads back as it
abbrev pub DecimalLaw : Type 0
DecimalLaw = (n : ℕ) → n < 2 ^ 64 → Numeral (decimal n) × (value (decimal n) ≡ n)
