-- Two keys under which all tags are the same.
use Rattle.std.proofs.Common.{◌≡◌, ℕ, ◌+◌, ◌-◌, ◌<◌, ◌≤◌, leb, List, ◌++◌, length, drop, replicate, refl, arith}
use Rattle.std.proofs.lemmas.List.{append_assoc, drop-replicate, length-append, length-replicate, replicate-append-replicate}
use Rattle.std.proofs.lemmas.Bool.{cond-false, cond-true, le-leb, lt-leb}
use Rattle.digest.specs.Sha256.{digest}
use Rattle.digest.specs.Hmac.{hmac, key_block, short_key}
use Rattle.digest.proofs.Blocks.{length-digest}

short_kept : (key : List ℕ) → length key ≤ 64 → short_key key ≡ key
short_kept key h = cond-true (leb (length key) 64) key (digest key) (le-leb (length key) 64 h)

-- a long key's digest
pub digested_key : (key k m : List ℕ) → 64 < length key → k ≡ digest key → hmac k m ≡ hmac key m
unfolding hmac
digested_key key k m h e =
    let l = length-digest key in
    let a = short_kept (digest key) (omega arith) in
    let b : short_key key ≡ digest key = cond-false (leb (length key) 64) key (digest key) (lt-leb (length key) 64 h) in
    rw (e, a, b) refl

-- a short key with zeros after it
filled_block : (pad n : ℕ) (key : List ℕ) → length key + n ≤ 64 → key_block pad (key ++ replicate n 0) ≡ key_block pad key
unfolding key_block
filled_block pad n key h =
    let l : length (key ++ replicate n 0) ≡ length key + n = simp (length-append, length-replicate) refl in
    let s : 64 - length key ≡ n + (64 - (length key + n)) = omega arith in
    let r = replicate-append-replicate {A = ℕ} n (64 - (length key + n)) 0 in
    let a = append_assoc key (replicate n 0) (replicate (64 - (length key + n)) 0) in
    rw (l, a, r, s) refl

pub filled_key : (key k m : List ℕ) → length key ≤ 32 → k ≡ key ++ replicate (32 - length key) 0 → hmac k m ≡ hmac key m
unfolding hmac
filled_key key k m h e =
    let n : ℕ = 32 - length key in
    let l : length (key ++ replicate n 0) ≤ 64 = simp (length-append, length-replicate) (omega arith) in
    let a = short_kept (key ++ replicate n 0) l in
    let b = short_kept key (omega arith) in
    let i = filled_block 0x36 n key (omega arith) in
    let o = filled_block 0x5c n key (omega arith) in
    rw (e, a, b, i, o) refl

pub filled_is : (key part : List ℕ) → part ≡ key → part ++ drop (length key - 0) (replicate 32 0) ≡ key ++ replicate (32 - length key) 0
filled_is key part e =
    let n : length key - 0 ≡ length key = omega arith in let d = drop-replicate {X = ℕ} (length key) 32 0 in rw (n, e, d) refl
