-- HMAC-SHA-256 as RFC 2104 defines it, with blocks of 64 bytes.
use Rattle.std.specs.Prelude.{ℕ, ◌-◌, cond, List, ◌++◌, map, length, replicate, bit_xor, nat_le}
use Rattle.digest.specs.Sha256.{digest}

-- a key of more than a block is digested first
abbrev pub short_key : List ℕ → List ℕ
short_key key = cond (nat_le (length key) 64) key (digest key)

-- the key, filled up with zeros to a block, with each byte xored with the pad
unfoldable pub key_block : ℕ → List ℕ → List ℕ
key_block pad key = map (λ b. bit_xor b pad) (key ++ replicate (64 - length key) 0)

abbrev pub ipad : ℕ
ipad = 0x36

abbrev pub opad : ℕ
opad = 0x5c

unfoldable pub hmac : List ℕ → List ℕ → List ℕ
hmac key message =
    let k : List ℕ = short_key key in digest (key_block opad k ++ digest (key_block ipad k ++ message))
