-- Arrays made by a function of each element or of each place, and the arrays that a slice is read as.
use Rattle.std.proofs.Common.{◌≡◌, ℕ, zero, suc, ◌+◌, ◌*◌, ◌<◌, List, [], map, length, get_or, take, drop, refl, subst, arith}
use Rattle.std.proofs.lemmas.List.{drop_all, drop_more, drop-drop, get_or-drop, get_or-take}
use Rattle.std.specs.Array.{IsMapOf, MapsFrom}
use Rattle.std.specs.Fn.{Mut, Called}
use Rattle.std.specs.Int.{from_be_bytes, w32}
use Rattle.std.specs.Simd.{first_chunks}
use Rattle.digest.specs.Sha256.{block_word}

module _ {F A B : Type 0} (g : Mut F (A × Unit {0}) B) (v : A → B) (f : F) (step : (x : A) (y : B) (q : F) → Called g f (x, tt) y q → (y ≡ v x) × (q ≡ f)) where
  maps_from : (n i : ℕ) (xs : List A) (ys : List B) → length xs ≡ i + n → length ys ≡ i + n → MapsFrom g f xs ys i n → drop i ys ≡ map v (drop i xs)
  maps_from zero i xs ys l m s =
      let a = drop_all i xs (omega arith) in let b = drop_all i ys (omega arith) in rw (a, b) refl
  maps_from (suc n) i xs ys l m s =
      let x : A = s.1 in
      let y : B = s.2 in
      let met = step x y s.0 s.5 in
      let rest = subst (λ r. MapsFrom g r xs ys (i + 1) n) met.1 s.6 in
      let after = maps_from n (i + 1) xs ys (omega arith) (omega arith) rest in
      let a = drop_more xs i x (omega arith) in
      let b = drop_more ys i y (omega arith) in
      let c = s.3.0 in
      let d = s.4.0 in
      let e = met.0 in
      cc

  -- `map` of an array, by a function that keeps no state
  pub maps_are : (n : ℕ) (xs : List A) (ys : List B) → length xs ≡ n → IsMapOf g f xs ys n → ys ≡ map v xs
  maps_are n xs ys l s = maps_from n 0 xs ys (omega arith) (omega (arith, s.long)) s.each

-- the array at place i
pub chunk_at : (n k i : ℕ) (xs : List ℕ) → i < k → get_or (first_chunks n k xs) i [] ≡ take n (drop (n * i) xs)
chunk_at n zero i xs below = absurd (omega arith)
chunk_at n (suc k) zero xs below = let e : n * 0 ≡ 0 = omega arith in rw e refl
chunk_at n (suc k) (suc i) xs below =
    let next = chunk_at n k i (drop n xs) (omega arith) in
    let d = drop-drop (n * i) n xs in
    let e : n + n * i ≡ n * suc i = grind arith in
    cc

-- the word at place i of a block
pub chunk_word : (block chunk : List ℕ) (i : ℕ) → chunk ≡ take 4 (drop (4 * i) block) → from_be_bytes w32 chunk ≡ block_word block i
chunk_word block chunk i e =
    let n : 4 * i + 0 ≡ 4 * i = omega arith in
    let rest : List ℕ = drop (4 * i) block in
    rw (e, get_or-take 4 rest 0 0 (omega arith), get_or-take 4 rest 1 0 (omega arith), get_or-take 4 rest 2 0 (omega arith), get_or-take 4 rest 3 0 (omega arith), get_or-drop (4 * i) block 0 0, get_or-drop (4 * i) block 1 0, get_or-drop (4 * i) block 2 0, get_or-drop (4 * i) block 3 0, n) refl
