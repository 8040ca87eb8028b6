-- SHA-256 as FIPS 180-4 defines it, on lists of bytes, with the section of the standard at each part.
-- A byte is a number below 2 ^ 8, and a word one below 2 ^ 32.
use Rattle.std.specs.Prelude.{ℕ, zero, suc, ◌+◌, ◌-◌, ◌*◌, ◌/◌, ◌%◌, ◌^◌, cond, List, [], ◌∷◌, ◌++◌, length, take, drop, replicate, bit_and, bit_or, bit_xor, nat_lt, slice_index, slice_index_or}
use Rattle.std.specs.List.{flat_map}
use Rattle.digest.specs.declared.state.State.{State}

-- 2.2.2, 3.2: addition modulo 2 ^ 32, rotation and shift to the right, and the bitwise complement
infixl 6 ◌⊞◌
abbrev pub ◌⊞◌ : ℕ → ℕ → ℕ
x ⊞ y = (x + y) % 2 ^ 32

abbrev pub rotr : ℕ → ℕ → ℕ
rotr n x = bit_or (x / 2 ^ n) (x * 2 ^ (32 - n) % 2 ^ 32)

abbrev pub shr : ℕ → ℕ → ℕ
shr n x = x / 2 ^ n

abbrev pub complement : ℕ → ℕ
complement x = 2 ^ 32 - 1 - x

-- 4.1.2: the six functions. The standard writes big_sigma0 and big_sigma1 with a capital sigma.
abbrev pub Ch : ℕ → ℕ → ℕ → ℕ
Ch x y z = bit_xor (bit_and x y) (bit_and (complement x) z)

abbrev pub Maj : ℕ → ℕ → ℕ → ℕ
Maj x y z = bit_xor (bit_xor (bit_and x y) (bit_and x z)) (bit_and y z)

abbrev pub big_sigma0 : ℕ → ℕ
big_sigma0 x = bit_xor (bit_xor (rotr 2 x) (rotr 13 x)) (rotr 22 x)

abbrev pub big_sigma1 : ℕ → ℕ
big_sigma1 x = bit_xor (bit_xor (rotr 6 x) (rotr 11 x)) (rotr 25 x)

abbrev pub sigma0 : ℕ → ℕ
sigma0 x = bit_xor (bit_xor (rotr 7 x) (rotr 18 x)) (shr 3 x)

abbrev pub sigma1 : ℕ → ℕ
sigma1 x = bit_xor (bit_xor (rotr 17 x) (rotr 19 x)) (shr 10 x)

-- 4.2.2: the constants
unfoldable pub K : List ℕ
K =
    0x428a2f98 ∷ 0x71374491 ∷ 0xb5c0fbcf ∷ 0xe9b5dba5 ∷ 0x3956c25b ∷ 0x59f111f1 ∷ 0x923f82a4 ∷ 0xab1c5ed5 ∷
    0xd807aa98 ∷ 0x12835b01 ∷ 0x243185be ∷ 0x550c7dc3 ∷ 0x72be5d74 ∷ 0x80deb1fe ∷ 0x9bdc06a7 ∷ 0xc19bf174 ∷
    0xe49b69c1 ∷ 0xefbe4786 ∷ 0x0fc19dc6 ∷ 0x240ca1cc ∷ 0x2de92c6f ∷ 0x4a7484aa ∷ 0x5cb0a9dc ∷ 0x76f988da ∷
    0x983e5152 ∷ 0xa831c66d ∷ 0xb00327c8 ∷ 0xbf597fc7 ∷ 0xc6e00bf3 ∷ 0xd5a79147 ∷ 0x06ca6351 ∷ 0x14292967 ∷
    0x27b70a85 ∷ 0x2e1b2138 ∷ 0x4d2c6dfc ∷ 0x53380d13 ∷ 0x650a7354 ∷ 0x766a0abb ∷ 0x81c2c92e ∷ 0x92722c85 ∷
    0xa2bfe8a1 ∷ 0xa81a664b ∷ 0xc24b8b70 ∷ 0xc76c51a3 ∷ 0xd192e819 ∷ 0xd6990624 ∷ 0xf40e3585 ∷ 0x106aa070 ∷
    0x19a4c116 ∷ 0x1e376c08 ∷ 0x2748774c ∷ 0x34b0bcb5 ∷ 0x391c0cb3 ∷ 0x4ed8aa4a ∷ 0x5b9cca4f ∷ 0x682e6ff3 ∷
    0x748f82ee ∷ 0x78a5636f ∷ 0x84c87814 ∷ 0x8cc70208 ∷ 0x90befffa ∷ 0xa4506ceb ∷ 0xbef9a3f7 ∷ 0xc67178f2 ∷ []

-- 5.1.1, the padding of a message of n bytes. First the fewest zeros with which whole blocks of 64 bytes come:
-- n + 1 + zeros n is 56 modulo 64.
abbrev pub zeros : ℕ → ℕ
zeros n = (119 - n % 64) % 64

-- a number below 2 ^ 64, the highest byte first
abbrev pub eight_bytes : ℕ → List ℕ
eight_bytes x =
    x / 2 ^ 56 % 256 ∷ x / 2 ^ 48 % 256 ∷ x / 2 ^ 40 % 256 ∷ x / 2 ^ 32 % 256 ∷
    x / 2 ^ 24 % 256 ∷ x / 2 ^ 16 % 256 ∷ x / 2 ^ 8 % 256 ∷ x % 256 ∷ []

-- what follows the message: the bit 1, the zeros, and the length in bits. The standard ends below 2 ^ 64 bits; from
-- there on the length is taken modulo 2 ^ 64, so that every list has a digest.
unfoldable pub ending : ℕ → List ℕ
ending n = 128 ∷ (replicate (zeros n) 0 ++ eight_bytes (8 * n % 2 ^ 64))

-- 5.3.3: the initial hash value
unfoldable pub initial : State
initial =
    record {
      a = 0x6a09e667;
      b = 0xbb67ae85;
      c = 0x3c6ef372;
      d = 0xa54ff53a;
      e = 0x510e527f;
      f = 0x9b05688c;
      g = 0x1f83d9ab;
      h = 0x5be0cd19;
    }

-- 6.2.2, step 1: the schedule of a block. Its first 16 words are read from the block (5.2.1),
abbrev pub block_word : List ℕ → ℕ → ℕ
block_word block t =
    slice_index block (4 * t) * 2 ^ 24 + slice_index block (4 * t + 1) * 2 ^ 16
    + slice_index block (4 * t + 2) * 2 ^ 8 + slice_index block (4 * t + 3)

-- and the others are made of the words ws before them
abbrev pub mixed_word : List ℕ → ℕ → ℕ
mixed_word ws t =
    sigma1 (slice_index ws (t - 2)) ⊞ slice_index_or ws (t - 7) 0 ⊞ sigma0 (slice_index ws (t - 15)) ⊞ slice_index_or ws (t - 16) 0

abbrev pub next_word : List ℕ → List ℕ → ℕ → ℕ
next_word block ws t = cond (nat_lt t 16) (block_word block t) (mixed_word ws t)

-- the words ws before word t, and word t
abbrev pub grown : List ℕ → List ℕ → ℕ → List ℕ
grown block ws t = ws ++ next_word block ws t ∷ []

-- the first t words
unfoldable pub schedule : List ℕ → ℕ → List ℕ
schedule block zero = []
schedule block (suc t) = grown block (schedule block t) t

-- step 3: one round, with its constant k and its word w
unfoldable pub round : State → ℕ → ℕ → State
round v k w =
    let T1 : ℕ = v.h ⊞ big_sigma1 v.e ⊞ Ch v.e v.f v.g ⊞ k ⊞ w in
    let T2 : ℕ = big_sigma0 v.a ⊞ Maj v.a v.b v.c in
    record { a = T1 ⊞ T2; b = v.a; c = v.b; d = v.c; e = v.d ⊞ T1; f = v.e; g = v.f; h = v.g }

-- the working variables after t rounds
unfoldable pub rounds : ℕ → State → List ℕ → State
rounds zero v ws = v
rounds (suc t) v ws = round (rounds t v ws) (slice_index K t) (slice_index ws t)

-- step 4: the next hash value
abbrev pub summed : State → State → State
summed x y =
    record {
      a = x.a ⊞ y.a;
      b = x.b ⊞ y.b;
      c = x.c ⊞ y.c;
      d = x.d ⊞ y.d;
      e = x.e ⊞ y.e;
      f = x.f ⊞ y.f;
      g = x.g ⊞ y.g;
      h = x.h ⊞ y.h;
    }

-- steps 1 to 4: one block
unfoldable pub compress : State → List ℕ → State
compress v block = summed (rounds 64 v (schedule block 64)) v

-- 6.2.2: the hash value after the first n blocks of xs
unfoldable pub absorb : ℕ → State → List ℕ → State
absorb zero v xs = v
absorb (suc n) v xs = compress (absorb n v xs) (take 64 (drop (64 * n) xs))

-- the hash value as bytes, word by word, the highest byte first
abbrev pub four_bytes : ℕ → List ℕ
four_bytes x = x / 2 ^ 24 % 256 ∷ x / 2 ^ 16 % 256 ∷ x / 2 ^ 8 % 256 ∷ x % 256 ∷ []

abbrev pub state_words : State → List ℕ
state_words v = v.a ∷ v.b ∷ v.c ∷ v.d ∷ v.e ∷ v.f ∷ v.g ∷ v.h ∷ []

unfoldable pub state_bytes : State → List ℕ
state_bytes v = flat_map four_bytes (state_words v)

-- the digest from a hash value v, where xs is still to come, in whole blocks
unfoldable pub finished : State → List ℕ → List ℕ
finished v xs = state_bytes (absorb (length xs / 64) v xs)

-- the digest of a message
unfoldable pub digest : List ℕ → List ℕ
digest message = finished initial (message ++ ending (length message))
