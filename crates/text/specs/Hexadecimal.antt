-- Bytes as a field of lowercase hexadecimal.
use Rattle.std.specs.Prelude.{◌≡◌, ℕ, ◌+◌, ◌/◌, ◌%◌, ◌<◌, cond, List, [], ◌∷◌, ◌≢◌, nat_lt}
use Rattle.std.specs.List.{AllByRecursion}
use Rattle.text.specs.declared.hex.HexError.{HexError}
use Rattle.text.specs.declared.hex.HexError.TheVariants.{NotHex, NoMemory}

-- the digit of a number below sixteen: `0` to `9`, `a` to `f`
abbrev pub hex_digit : ℕ → ℕ
hex_digit n = cond (nat_lt n 10) (48 + n) (87 + n)

-- two digits for each byte, the high one first
abbrev pub hex_pairs : List ℕ → List ℕ
hex_pairs [] = []
hex_pairs (b ∷ bs) = hex_digit (b / 16) ∷ hex_digit (b % 16) ∷ hex_pairs bs

-- the field of these bytes: their digits, or `-` for no bytes
abbrev pub hex_written : List ℕ → List ℕ
hex_written [] = 45 ∷ []
hex_written (b ∷ bs) = hex_pairs (b ∷ bs)

abbrev pub Bytes : List ℕ → Type 0
Bytes bs = AllByRecursion (λ b. b < 256) bs

-- no bytes have these pairs
abbrev pub NoPairs : List ℕ → Type 0
NoPairs digits = (bs : List ℕ) → Bytes bs → hex_pairs bs ≢ digits

-- the field reads as these bytes: it is written from them
abbrev pub HexReads : List ℕ → List ℕ → Type 0
HexReads field bs = Bytes bs × (hex_written bs ≡ field)

-- why a field is refused: no bytes have it, or memory failed, which says nothing
abbrev pub HexRefused : List ℕ → HexError → Type 0
HexRefused field NotHex = (bs : List ℕ) → HexReads field bs → ⊥
HexRefused field NoMemory = Unit {0}

-- bytes of one field are the same bytes, so what is written reads back as itself and as nothing else
abbrev pub HexLaw : Type 0
HexLaw = (bs cs : List ℕ) → Bytes bs → Bytes cs → hex_written bs ≡ hex_written cs → bs ≡ cs
