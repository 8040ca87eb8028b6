-- The key's blocks of HMAC, and a tag made from the hash values after them.
use Rattle.std.proofs.Common.{◌≡◌, ℕ, suc, ◌+◌, ◌-◌, ◌<◌, ◌≤◌, leb, List, [], ◌∷◌, ◌++◌, map, length, get_or, take, set, replicate, sym, ap, ◌∙◌, arith}
use lib.Bits.{bit_xor, xor_zero_l}
use lib.LanesLaws.{map-replicate}
use Rattle.std.proofs.lemmas.List.{append_assoc, length-append, length-map, length-replicate, length-take-le, map-append, map_more, set_at, take_all}
use Rattle.std.proofs.lemmas.Bool.{cond-true, le-leb}
use Rattle.digest.specs.Sha256.{digest}
use Rattle.digest.specs.Hmac.{hmac, ipad, key_block, opad, short_key}
use Rattle.digest.proofs.Blocks.{length-digest}

map-zeros : (pad n : ℕ) → map (λ b. bit_xor b pad) (replicate n 0) ≡ replicate n pad
map-zeros pad n = map-replicate (λ b. bit_xor b pad) n 0 ∙ ap (replicate n) (xor_zero_l pad)

-- one more byte of the key in its block
pub block_step : (pad i : ℕ) (key block : List ℕ) → i < length key → length key ≤ 64 → block ≡ map (λ b. bit_xor b pad) (take i key) ++ replicate (64 - i) pad → set block i (bit_xor (get_or key i 0) pad) ≡ map (λ b. bit_xor b pad) (take (i + 1) key) ++ replicate (64 - (i + 1)) pad
block_step pad i key block h k e =
    let front : List ℕ = map (λ b. bit_xor b pad) (take i key) in
    let rest : List ℕ = replicate (64 - (i + 1)) pad in
    let x : ℕ = bit_xor (get_or key i 0) pad in
    let n : 64 - i ≡ suc (64 - (i + 1)) = omega arith in
    let l : length front ≡ i = length-map (take i key) (λ b. bit_xor b pad) ∙ length-take-le i key (omega arith) in
    let s = set_at front pad rest x i l in
    let m = map_more (λ b. bit_xor b pad) key i 0 h in
    let a = append_assoc front (x ∷ []) rest in
    rw (e, n, s, m) (sym a)

pub block_all : (pad i : ℕ) (key block : List ℕ) → i ≡ length key → block ≡ map (λ b. bit_xor b pad) (take i key) ++ replicate (64 - i) pad → block ≡ key_block pad key
unfolding key_block
block_all pad i key block h e =
    let t = take_all i key (omega arith) in
    let z = map-zeros pad (64 - length key) in
    let a = map-append (λ b. bit_xor b pad) key (replicate (64 - length key) 0) in
    rw (e, a, z, t, h)

pub length-key_block : (pad : ℕ) (key : List ℕ) → length key ≤ 64 → length (key_block pad key) ≡ 64
unfolding key_block
length-key_block pad key h = simp (length-map, length-append, length-replicate) (omega arith)

-- a key of at most a block is taken as it is
pub hmac_is : (key m inner r : List ℕ) → length key ≤ 64 → inner ≡ digest (key_block ipad key ++ m) → r ≡ digest (key_block opad key ++ inner) → r ≡ hmac key m
unfolding hmac
hmac_is key m inner r h i o =
    let s : short_key key ≡ key = cond-true (leb (length key) 64) key (digest key) (le-leb (length key) 64 h) in rw s (cc)

-- a tag has 32 bytes
pub length-hmac : (key m : List ℕ) → length (hmac key m) ≡ 32
unfolding hmac
length-hmac key m = let k : List ℕ = short_key key in length-digest (key_block opad k ++ digest (key_block ipad k ++ m))
