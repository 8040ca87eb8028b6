-- The fields after the word of a line: what is left of them before and after one is taken.
use Rattle.std.specs.Prelude.{◌≡◌, ℕ, ◌≤◌, List, ◌∷◌, length, Result, MatchResult}
use Rattle.text.specs.Hexadecimal.{hex_written, Bytes}
use Rattle.text.specs.Decimal.{Numeral, value}
use Rattle.script.specs.Faults.{Refutes}
use Rattle.script.specs.declared.fault.Fault.{Fault}

-- the first field is written from these bytes
abbrev pub HasBytes : List (List ℕ) → List ℕ → List (List ℕ) → Type 0
HasBytes before bs after = Bytes bs × (before ≡ hex_written bs ∷ after)

abbrev pub HasKey : List (List ℕ) → List ℕ → List (List ℕ) → Type 0
HasKey before key after = (length key ≡ 32) × HasBytes before key after

-- the field is a numeral of n, which is at most the highest
abbrev pub Denotes : ℕ → List ℕ → ℕ → Type 0
Denotes highest field n = Numeral field × (value field ≡ n) × (n ≤ highest)

-- the first field is a numeral of n, which is at most the highest
pub record HasNumber (highest : ℕ) (before : List (List ℕ)) (n : ℕ) (after : List (List ℕ)) : Type 0 where
  pub field : List ℕ
  pub first : before ≡ field ∷ after
  pub numeral : Numeral field
  pub denotes : value field ≡ n
  pub within : n ≤ highest

-- the first field is a numeral of n, a number of consoles
abbrev pub HasConsoles : List (List ℕ) → ℕ → List (List ℕ) → Type 0
HasConsoles before n after = (4 ≤ n) × HasNumber 16 before n after

-- the first field is a numeral of n, a number of two bytes
abbrev pub HasShort : List (List ℕ) → ℕ → List (List ℕ) → Type 0
HasShort before n after = HasNumber 65535 before n after

-- some value is there: what a refusal rules out
abbrev pub Possible : {A : Type 0} → (List (List ℕ) → A → List (List ℕ) → Type 0) → List (List ℕ) → Type 0
Possible {A} Has before = (a : A) × (after : List (List ℕ)) × Has before a after

-- what taking an argument answers: a value that is there, or a fault that rules every value out
abbrev pub Takes : {A : Type 0} → (List (List ℕ) → A → List (List ℕ) → Type 0) → List (List ℕ) → Result A Fault → List (List ℕ) → Type 0
Takes Has before r after = MatchResult r (λ a. Has before a after) (λ e. Refutes e (Possible Has before))

-- an argument, and then what is said of it and of the fields after it
pub record Then {A : Type 0} (Has : List (List ℕ) → A → List (List ℕ) → Type 0) (On : A → List (List ℕ) → Type 0) (before : List (List ℕ)) : Type 0 where
  pub value : A
  pub after : List (List ℕ)
  pub taken : Has before value after
  pub on : On value after
