-- Bytes from pairs of digits.
use Rattle.std.proofs.Common.{◌≡◌, ℕ, zero, suc, ◌+◌, ◌*◌, ◌/◌, ◌%◌, ◌<◌, List, [], ◌∷◌, ◌++◌, length, get_or, take, drop, sym, refl, ap, ◌∙◌, subst, append-nil, Some, None, Option, MatchOption, arith}
use Rattle.std.proofs.lemmas.List.{drop_more, take_more, get_or-take, get_or-drop}
use Rattle.std.proofs.lemmas.Bool.Decides.{nat_tests}
use Rattle.std.proofs.lemmas.Option.{MatchOption-at_some, MatchOption-at_none}
use Rattle.std.specs.Simd.{first_chunks}
use Rattle.text.specs.Hexadecimal.{hex_digit, hex_pairs, hex_written, Bytes, NoPairs, HexLaw}

same_digit : (m n : ℕ) → m < 16 → n < 16 → hex_digit m ≡ hex_digit n → m ≡ n
same_digit m n below under e = grind (arith, nat_tests)

same_byte : (b c : ℕ) → b < 256 → c < 256 → hex_digit (b / 16) ≡ hex_digit (c / 16) → hex_digit (b % 16) ≡ hex_digit (c % 16) → b ≡ c
same_byte b c below under high low =
    let h = same_digit (b / 16) (c / 16) (omega arith) (omega arith) high in
    let l = same_digit (b % 16) (c % 16) (omega arith) (omega arith) low in
    omega arith

same_pairs : (bs cs : List ℕ) → Bytes bs → Bytes cs → hex_pairs bs ≡ hex_pairs cs → bs ≡ cs
same_pairs [] [] p q e = refl
same_pairs [] (c ∷ cs) p q e = absurd (let z : ◌≡◌ {A = ℕ} 0 1 = cc in omega arith)
same_pairs (b ∷ bs) [] p q e = absurd (let z : ◌≡◌ {A = ℕ} 0 1 = cc in omega arith)
same_pairs (b ∷ bs) (c ∷ cs) p q e =
    let h = same_byte b c p.0 q.0 (cc) (cc) in
    let t = same_pairs bs cs p.1 q.1 (cc) in
    cc

pub hex_law : HexLaw
hex_law [] [] p q e = refl
hex_law [] (c ∷ cs) p q e = absurd (let z : ◌≡◌ {A = ℕ} 0 1 = cc in omega arith)
hex_law (b ∷ bs) [] p q e = absurd (let z : ◌≡◌ {A = ℕ} 0 1 = cc in omega arith)
hex_law (b ∷ bs) (c ∷ cs) p q e = same_pairs (b ∷ bs) (c ∷ cs) p q e

pub pairs_push : (bs : List ℕ) (b : ℕ) (rest : List ℕ) → hex_pairs (bs ++ b ∷ []) ++ rest ≡ hex_pairs bs ++ hex_digit (b / 16) ∷ hex_digit (b % 16) ∷ rest
pairs_push [] b rest = refl
pairs_push (c ∷ bs) b rest = ap (λ (l : List ℕ). hex_digit (c / 16) ∷ hex_digit (c % 16) ∷ l) (pairs_push bs b rest)

-- where the rest has no bytes, nor has the whole
pub none_after : (vs rest : List ℕ) → NoPairs rest → NoPairs (hex_pairs vs ++ rest)
none_after [] rest none bs p e = none bs p e
none_after (v ∷ vs) rest none [] p e = let z : ◌≡◌ {A = ℕ} 0 1 = cc in omega arith
none_after (v ∷ vs) rest none (b ∷ bs) p e = none_after vs rest none bs p.1 (cc)

length_pairs : (bs : List ℕ) → length (hex_pairs bs) ≡ 2 * length bs
length_pairs [] = refl
length_pairs (b ∷ bs) = let rest = length_pairs bs in omega arith

-- an odd number of digits
pub none_odd : (digits : List ℕ) → (length digits % 2 ≡ 0 → ⊥) → NoPairs digits
none_odd digits odd bs p e = let two = length_pairs bs in let same = ap (λ (l : List ℕ). length l) e in odd (omega arith)

none_pair : (high low : ℕ) (rest : List ℕ) → ((b : ℕ) → b < 256 → hex_digit (b / 16) ≡ high → hex_digit (b % 16) ≡ low → ⊥) → NoPairs (high ∷ low ∷ rest)
none_pair high low rest none [] p e = let z : ◌≡◌ {A = ℕ} 0 1 = cc in omega arith
none_pair high low rest none (b ∷ bs) p e = none b p.0 (cc) (cc)

chunk_at : (n k : ℕ) (xs : List ℕ) (i j : ℕ) → i < k → j < n → get_or (get_or (first_chunks n k xs) i []) j 0 ≡ get_or xs (n * i + j) 0
chunk_at n zero xs i j within at = absurd (omega arith)
chunk_at n (suc k) xs zero j within at = let place : n * 0 + j ≡ j = omega arith in rw place (get_or-take n xs j 0 at)
chunk_at n (suc k) xs (suc i) j within at =
    let rest = chunk_at n k (drop n xs) i j (omega arith) at in
    let here = get_or-drop n xs (n * i + j) 0 in
    let place : n + (n * i + j) ≡ n * suc i + j = omega arith in
    rw (← place) (rest ∙ here)

-- The digits of a pair are those at its place.
pub pair_at : (pairs : List (List ℕ)) (digits : List ℕ) (k i : ℕ) → pairs ≡ first_chunks 2 k digits → i < k → (get_or (get_or pairs i []) 0 0 ≡ get_or digits (2 * i) 0) × (get_or (get_or pairs i []) 1 0 ≡ get_or digits (2 * i + 1) 0)
pair_at pairs digits k i e within = rw e (let place : 2 * i + 0 ≡ 2 * i = omega arith in rw (← place) (chunk_at 2 k digits i 0 within (omega arith)), chunk_at 2 k digits i 1 within (omega arith))

-- The reader's loop: vs are read from the digits before place 2 i.
module _ (vs digits : List ℕ) (i : ℕ) (below : i < length digits / 2) (read : hex_pairs vs ++ drop (2 * i) digits ≡ digits) where
  next_two : drop (2 * i) digits ≡ get_or digits (2 * i) 0 ∷ get_or digits (2 * i + 1) 0 ∷ drop (2 * (i + 1)) digits
  next_two =
      let first = drop_more digits (2 * i) 0 (omega arith) in
      let second = drop_more digits (2 * i + 1) 0 (omega arith) in
      let place : 2 * (i + 1) ≡ 2 * i + 1 + 1 = omega arith in
      rw place (first ∙ ap (λ (l : List ℕ). get_or digits (2 * i) 0 ∷ l) second)

  -- the byte of the next pair
  pub pairs_next : (b : ℕ) → hex_digit (b / 16) ≡ get_or digits (2 * i) 0 → hex_digit (b % 16) ≡ get_or digits (2 * i + 1) 0 → hex_pairs (vs ++ b ∷ []) ++ drop (2 * (i + 1)) digits ≡ digits
  pairs_next b high low =
      let two = next_two in
      let push = pairs_push vs b (drop (2 * (i + 1)) digits) in
      cc

  -- a pair that no byte has
  pub none_next : ((b : ℕ) → b < 256 → hex_digit (b / 16) ≡ get_or digits (2 * i) 0 → hex_digit (b % 16) ≡ get_or digits (2 * i + 1) 0 → ⊥) → NoPairs digits
  none_next none =
      let P : List ℕ → Type 0 = NoPairs in
      subst P read (none_after vs (drop (2 * i) digits) (subst P (sym next_two) (none_pair _ _ _ none)))

  module _ (pairs : List (List ℕ)) (cut : pairs ≡ first_chunks 2 (length digits / 2) digits) (r : Option ℕ) (answer : MatchOption r ((b : ℕ) → b < 256 → hex_digit (b / 16) ≡ get_or (get_or pairs i []) 0 0 → hex_digit (b % 16) ≡ get_or (get_or pairs i []) 1 0 → ⊥) (λ b. (b < 256) × (hex_digit (b / 16) ≡ get_or (get_or pairs i []) 0 0) × (hex_digit (b % 16) ≡ get_or (get_or pairs i []) 1 0))) where
    pub pair_next : (b : ℕ) → r ≡ Some b → (b < 256) × (hex_pairs (vs ++ b ∷ []) ++ drop (2 * (i + 1)) digits ≡ digits)
    pair_next b is =
        let here = pair_at pairs digits (length digits / 2) i cut below in
        let byte = MatchOption-at_some _ _ b is answer in
        (byte.0, pairs_next b (byte.1 ∙ here.0) (byte.2 ∙ here.1))

    pub pair_none : r ≡ None → NoPairs digits
    pair_none is =
        let here = pair_at pairs digits (length digits / 2) i cut below in
        let none = MatchOption-at_none _ _ is answer in
        none_next (λ b under high low. none b under (high ∙ sym here.0) (low ∙ sym here.1))

pub dash : (field : List ℕ) → length field ≡ 1 → get_or field 0 0 ≡ 45 → hex_written [] ≡ field
dash [] one here = absurd (omega arith)
dash (c ∷ []) one here = ap (λ (x : ℕ). x ∷ []) (sym here)
dash (c ∷ d ∷ cs) one here = absurd (omega arith)

-- the writer's loop: one byte more
pub pairs_more : (bs : List ℕ) (i : ℕ) → i < length bs → hex_pairs (take i bs) ++ hex_digit (get_or bs i 0 / 16) ∷ hex_digit (get_or bs i 0 % 16) ∷ [] ≡ hex_pairs (take (i + 1) bs)
pairs_more bs i below =
    let one = take_more bs i 0 below in
    let push = pairs_push (take i bs) (get_or bs i 0) [] in
    let end = append-nil (hex_pairs (take i bs ++ get_or bs i 0 ∷ [])) in
    cc
