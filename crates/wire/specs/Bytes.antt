-- Numbers as bytes, most significant first, and parts of a list of bytes.
use Rattle.std.specs.Prelude.{ℕ, zero, suc, ◌+◌, ◌*◌, ◌/◌, ◌%◌, ◌^◌, ◌<◌, List, [], ◌∷◌, length, take, drop}
use Rattle.std.specs.List.{AllByRecursion}

-- every number is a byte
abbrev pub Octets : List ℕ → Type 0
Octets bytes = AllByRecursion (λ b. b < 256) bytes

-- the number v in `width` bytes
unfoldable pub be : ℕ → ℕ → List ℕ
be zero v = []
be (suc width) v = (v / 256 ^ width % 256) ∷ be width v

-- the number in these bytes
unfoldable pub num : List ℕ → ℕ
num [] = 0
num (b ∷ bs) = b * 256 ^ length bs + num bs

-- the `len` bytes from place `at` on
abbrev pub field : ℕ → ℕ → List ℕ → List ℕ
field at len bytes = take len (drop at bytes)

-- the number in these
abbrev pub number : ℕ → ℕ → List ℕ → ℕ
number at len bytes = num (field at len bytes)
