-- What stands in the buffers that a digest is made in.
use Rattle.std.proofs.Common.{◌≡◌, ℕ, suc, ◌+◌, ◌-◌, ◌<◌, ◌≤◌, List, ◌∷◌, ◌++◌, length, take, drop, set, replicate, refl, ap, arith}
use borrow.Rule.Slice.PartMut.{put_mid}
use Rattle.std.proofs.lemmas.List.{append_assoc, drop-drop, drop-replicate, length-append, length-replicate, length-take-le, replicate-append-replicate, set_at, take_at}
use Rattle.digest.specs.Sha256.{eight_bytes, zeros}

-- a slice written into a list, from `at` on
put_is : (at end : ℕ) (xs ys zs : List ℕ) → ys ≡ zs → end ≡ at + length zs → put_mid at (end - at) xs ys ≡ take at xs ++ (zs ++ drop (at + length zs) xs)
put_is at end xs ys zs e h =
    let k : end - at ≡ length zs = omega arith in
    let d = drop-drop (length zs) at xs in
    cc

-- what stands up to its end
put-take : (at n : ℕ) (xs zs ys : List ℕ) → at + length zs ≤ length xs → n ≡ at + length zs → take n (take at xs ++ (zs ++ ys)) ≡ take at xs ++ zs
put-take at n xs zs ys h e =
    let a : at ≤ length xs = omega arith in
    let b = length-take-le at xs a in
    let c : length (take at xs ++ zs) ≡ n = simp length-append (omega arith) in
    rw (← append_assoc (take at xs) zs ys) (take_at (take at xs ++ zs) ys n c)

-- the last bytes of a message, the bit 1, zeros, and the length
set_one : (rest : List ℕ) (n : ℕ) → length rest ≡ n → n < 128 → set (rest ++ replicate (128 - n) 0) n 128 ≡ rest ++ 128 ∷ replicate (127 - n) 0
set_one rest n l h =
    let e : 128 - n ≡ suc (127 - n) = omega arith in rw e (set_at rest 0 (replicate (127 - n) 0) 128 n l)

take_one : (rest : List ℕ) (n k : ℕ) → length rest ≡ n → n + 1 + k ≤ 128 → take (n + 1 + k) (rest ++ 128 ∷ replicate (127 - n) 0) ≡ rest ++ 128 ∷ replicate k 0
take_one rest n k l h =
    let e : 127 - n ≡ k + (127 - n - k) = omega arith in
    let r = replicate-append-replicate {A = ℕ} k (127 - n - k) 0 in
    let front : List ℕ = rest ++ 128 ∷ replicate k 0 in
    let c : length front ≡ n + 1 + k = simp (length-append, length-replicate) (omega arith) in
    let t = take_at front (replicate (127 - n - k) 0) (n + 1 + k) c in
    let a = append_assoc rest (128 ∷ replicate k 0) (replicate (127 - n - k) 0) in
    cc

pub tail_is : (rest front size last : List ℕ) (end bits : ℕ) → length rest < 64 → front ≡ rest → size ≡ eight_bytes bits → last ≡ size → end ≡ length rest + 9 + zeros (length rest) → take (length rest + 9 + zeros (length rest)) (put_mid (end - 8) (end - (end - 8)) (set (front ++ drop (length rest) (replicate 128 0)) (length rest) 128) last) ≡ rest ++ 128 ∷ (replicate (zeros (length rest)) 0 ++ eight_bytes bits)
tail_is rest front size last end bits h f b w p =
    let l : length size ≡ 8 = ap length b in
    let n : ℕ = length rest in
    let z : ℕ = zeros n in
    let at : ℕ = end - 8 in
    let t2 : List ℕ = set (front ++ drop n (replicate 128 0)) n 128 in
    let d = drop-replicate {X = ℕ} n 128 0 in
    let s = set_one rest n refl (omega arith) in
    let e2 : t2 ≡ rest ++ 128 ∷ replicate (127 - n) 0 = cc in
    let l2 : length t2 ≡ 128 = rw e2 (simp (length-append, length-replicate) (omega arith)) in
    let at-is : at ≡ n + 1 + z = omega arith in
    let t = take_one rest n z refl (omega arith) in
    let q = put_is at end t2 last size w (omega arith) in
    let k = put-take at (n + 9 + z) t2 size (drop (at + length size) t2) (omega arith) (omega arith) in
    let a = append_assoc rest (128 ∷ replicate z 0) size in
    cc
