-- A message in parts: the hash value after the parts.
use Rattle.std.proofs.Common.{◌≡◌, ℕ, zero, suc, ◌+◌, ◌-◌, ◌*◌, ◌/◌, ◌%◌, ◌^◌, ◌≤◌, List, ◌∷◌, ◌++◌, length, take, drop, replicate, refl, ap, ◌∙◌, add-suc, arith}
use Rattle.std.proofs.lemmas.List.{append_assoc, drop_all, drop-append-le, drop-drop, length-append, length-drop, take_all, take-append-le}
use Rattle.digest.specs.declared.state.State.{State}
use Rattle.digest.specs.Sha256.{absorb, compress, digest, eight_bytes, ending, finished, initial, state_bytes, zeros}

-- the blocks after the first n
pub absorb_split : (n j : ℕ) (v : State) (xs : List ℕ) → absorb (n + j) v xs ≡ absorb j (absorb n v xs) (drop (64 * n) xs)
unfolding absorb
absorb_split n zero v xs = let e : n + 0 ≡ n = omega arith in rw e
absorb_split n (suc j) v xs =
    let ih = absorb_split n j v xs in
    let d = drop-drop (64 * j) (64 * n) xs in
    let e : 64 * n + 64 * j ≡ 64 * (n + j) = omega arith in
    rw (add-suc n j) (cc)

-- the first blocks do not depend on what follows
pub absorb_front : (n : ℕ) (v : State) (xs ys : List ℕ) → 64 * n ≤ length xs → absorb n v (xs ++ ys) ≡ absorb n v xs
unfolding absorb
absorb_front zero v xs ys h = refl
absorb_front (suc n) v xs ys h =
    let ih = absorb_front n v xs ys (omega arith) in
    let d = drop-append-le (64 * n) xs ys (omega arith) in
    let l = length-drop (64 * n) xs in
    let t = take-append-le 64 (drop (64 * n) xs) ys (omega arith) in
    cc

pub absorb_one : (v : State) (p : List ℕ) → length p ≡ 64 → absorb 1 v p ≡ compress v p
unfolding absorb
absorb_one v p h = let t = take_all 64 p (omega arith) in cc

-- whole blocks of a message first, and then the rest
pub absorb_rest : (q : ℕ) (v : State) (xs ys : List ℕ) → 64 * q ≤ length xs → absorb (length (xs ++ ys) / 64) v (xs ++ ys) ≡ absorb (length (drop (64 * q) xs ++ ys) / 64) (absorb q v xs) (drop (64 * q) xs ++ ys)
absorb_rest q v xs ys h =
    let rest : List ℕ = drop (64 * q) xs ++ ys in
    let d = drop-append-le (64 * q) xs ys h in
    let f = absorb_front q v xs ys h in
    let n : length (xs ++ ys) / 64 ≡ q + length rest / 64 = simp (length-append, length-drop) (omega arith) in
    let s = absorb_split q (length rest / 64) v (xs ++ ys) in
    cc

-- what ends a message depends on its length in the last block and on its length in bits
pub ending_is : (n k bits : ℕ) → n % 64 ≡ k % 64 → bits ≡ 8 * n % 2 ^ 64 → ending n ≡ 128 ∷ (replicate (zeros k) 0 ++ eight_bytes bits)
unfolding ending
ending_is n k bits e h = cc

-- a message of which the first block is in the hash value
pub digest_block : (p m : List ℕ) → length p ≡ 64 → digest (p ++ m) ≡ finished (compress initial p) (m ++ ending (64 + length m))
unfolding digest finished
digest_block p m h =
    let l : length (p ++ m) ≡ 64 + length m = simp length-append (omega arith) in
    let a = append_assoc p m (ending (64 + length m)) in
    let r = absorb_rest 1 initial p (m ++ ending (64 + length m)) (omega arith) in
    let d = drop_all (64 * 1) p (omega arith) in
    let o = absorb_one initial p h in
    cc

-- the code's way: whole blocks from the message, and then the buffer with the rest and what ends it
pub finish_is : (v s1 s2 : State) (before bits end : ℕ) (m rest last out : List ℕ) → before % 64 ≡ 0 → rest ≡ drop (length m / 64 * 64) m → bits ≡ (before + length m) % 2 ^ 64 * 8 % 2 ^ 64 → take (length rest + 9 + zeros (length rest)) last ≡ rest ++ 128 ∷ (replicate (zeros (length rest)) 0 ++ eight_bytes bits) → s1 ≡ absorb (length m / 64) v m → end ≡ length rest + 9 + zeros (length rest) → s2 ≡ absorb (length (take end last) / 64) s1 (take end last) → out ≡ state_bytes s2 → out ≡ finished v (m ++ ending (before + length m))
unfolding finished
finish_is v s1 s2 before bits end m rest last out b r w t a e f o =
    let q : ℕ = length m / 64 in
    let k : length m / 64 * 64 ≡ 64 * q = omega arith in
    let rest-is : rest ≡ drop (64 * q) m = cc in
    let l : length rest ≡ length m - 64 * q = ap length rest-is ∙ length-drop (64 * q) m in
    let n : (before + length m) % 64 ≡ length rest % 64 = omega arith in
    let bits_is : bits ≡ 8 * (before + length m) % 2 ^ 64 = omega arith in
    let ends = ending_is (before + length m) (length rest) bits n bits_is in
    let all = absorb_rest q v m (ending (before + length m)) (omega arith) in
    cc

pub digest_whole : (m : List ℕ) → digest m ≡ finished initial (m ++ ending (0 + length m))
unfolding digest
digest_whole m = let z : 0 + length m ≡ length m = omega arith in cc

-- a digest has 32 bytes
pub length-digest : (m : List ℕ) → length (digest m) ≡ 32
unfolding digest finished state_bytes
length-digest m = refl
