-- Signers by their bits.
use Rattle.std.proofs.Common.{◌≡◌, ℕ, zero, suc, ◌+◌, ◌-◌, ◌*◌, ◌/◌, ◌%◌, ◌^◌, ◌<◌, ◌≤◌, true, false, eqb, ltb, List, [], ◌∷◌, ◌++◌, map, length, get_or, drop, set as set_at_place, replicate, sym, refl, ap, ◌∙◌, subst, le_refl, add-zero, add-suc, mod-lt, mod-eq_of_lt, add-sub_of_le, mul-zero, add-one, one-add, arith, lit<, pow_pos, pow_mono, eqb-true}
use native.Mathlib.Nat.{div-eq_of_lt, mod-add-div, mod-one}
use borrow.Author.Tests.{eqb-false}
use lib.Count.{ones, ones_in, ones_cat}
use Rattle.std.proofs.lemmas.List.FromFn.{map-range_with_len_more, length-map-range_with_len}
use Rattle.std.specs.List.{range_with_len}
use Rattle.wire.specs.Bytes.{field}
use Rattle.wire.specs.Read.{seal_in}
use Rattle.digest.proofs.Arrays.{chunk_at}
use Rattle.wire.proofs.Filling.{fill_more, leave_more, length-first_chunks}
use Rattle.std.specs.Simd.{first_chunks}
use lib.Pow.{mod-pow-add}
use Rattle.std.proofs.lemmas.List.{length-append, append-nil, drop_more}
use Rattle.std.proofs.lemmas.Bool.Decides.{nat_tests}
use Rattle.wire.specs.Format.{signed, packed_below, no_seal}

-- how many of the consoles below i are in the set
abbrev pub before : ℕ → ℕ → ℕ
before set i = ones (set % 2 ^ i)

ones_bit : (b : ℕ) → b < 2 → ones b ≡ b
unfolding ones ones_in
ones_bit zero h = refl
ones_bit (suc zero) h = refl
ones_bit (suc (suc b)) h = absurd (omega arith)

pub before_none : (set : ℕ) → before set 0 ≡ 0
unfolding ones ones_in
before_none set = ap ones (mod-one set)

pub before_more : (set i : ℕ) → before set (suc i) ≡ before set i + set / 2 ^ i % 2
before_more set i =
    let bit : set / 2 ^ i % 2 < 2 = mod-lt (set / 2 ^ i) (lit< tt) in
    let low : set % 2 ^ i < 2 ^ i = mod-lt set (pow_pos i) in
    let split = mod-pow-add set 1 i in
    let cat = ones_cat i (set / 2 ^ i % 2) (set % 2 ^ i) low in
    let one = ones_bit (set / 2 ^ i % 2) bit in
    let step : before set (suc i) ≡ ones (set / 2 ^ i % 2 * 2 ^ i + set % 2 ^ i) = ap (λ (j : ℕ). ones (set % 2 ^ j)) (sym (one-add i)) ∙ ap ones split in
    omega arith

pub before-all : (set : ℕ) → set < 65536 → before set 16 ≡ ones set
before-all set h = ap ones (mod-eq_of_lt h)

-- each seal has 16 bytes
abbrev pub Full : List (List ℕ) → Type 0
Full seals = (i : ℕ) → i < length seals → length (get_or seals i []) ≡ 16

pub packed_size : (set : ℕ) (seals : List (List ℕ)) → Full seals → (i : ℕ) → i ≤ length seals → length (packed_below i set seals) ≡ 16 * before set i
unfolding packed_below
packed_size set seals full zero h = rw before_none
packed_size set seals full (suc i) h =
    let ih = packed_size set seals full i (omega arith) in
    let m = before_more set i in
    let here = full i (omega arith) in
    let bit : set / 2 ^ i % 2 < 2 = mod-lt (set / 2 ^ i) (lit< tt) in
    rw length-append (grind (arith, nat_tests))

before_below : (set i k : ℕ) → before set i ≤ before set (i + k)
before_below set i zero = rw add-zero (le_refl (before set i))
before_below set i (suc k) =
    let ih = before_below set i k in let m = before_more set (i + k) in rw add-suc (omega arith)

-- the signers below a signer, and that signer, are no more than all
pub before_signer : (set i : ℕ) → set < 65536 → i < 16 → signed set i ≡ true → before set i + 1 ≤ ones set
before_signer set i h below s =
    let bit = eqb-true (set / 2 ^ i % 2) 1 s in
    let m = before_more set i in
    let rest : before set (suc i) ≤ before set 16 =
    subst (λ (j : ℕ). before set (suc i) ≤ before set j) (add-sub_of_le below) (before_below set (suc i) (16 - suc i)) in
    let all = before-all set h in
    omega arith

-- the seals below the next number, with console i and without it
pub packed_in : (set : ℕ) (seals : List (List ℕ)) (i : ℕ) → signed set i ≡ true → packed_below i set seals ++ get_or seals i [] ≡ packed_below (i + 1) set seals
unfolding packed_below
packed_in set seals i s = rw (add-one, s)

pub packed_out : (set : ℕ) (seals : List (List ℕ)) (i : ℕ) → signed set i ≡ false → packed_below i set seals ≡ packed_below (i + 1) set seals
unfolding packed_below
packed_out set seals i s = rw (add-one, s, append-nil)

pub before_in : (set i : ℕ) → signed set i ≡ true → before set (i + 1) ≡ before set i + 1
before_in set i s = let bit = eqb-true (set / 2 ^ i % 2) 1 s in let m = before_more set i in rw (add-one i) (omega arith)

pub before_out : (set i : ℕ) → signed set i ≡ false → before set (i + 1) ≡ before set i
before_out set i s =
    let bit : set / 2 ^ i % 2 < 2 = mod-lt (set / 2 ^ i) (lit< tt) in
    let not = eqb-false (set / 2 ^ i % 2) 1 s in
    let m = before_more set i in
    rw (add-one i) (omega arith)

-- the seals of the signers below i at their numbers, over spare places
abbrev pub spread : ℕ → List ℕ → ℕ → List (List ℕ)
spread set bs i = map (seal_in set bs) (range_with_len 0 i) ++ replicate (16 - i) no_seal

module _ (set : ℕ) (bs : List ℕ) (i : ℕ) (h : i < 16) where
  next : map (seal_in set bs) (range_with_len 0 (i + 1)) ≡ map (seal_in set bs) (range_with_len 0 i) ++ seal_in set bs i ∷ []
  next = map-range_with_len_more (seal_in set bs) 0 i i (omega arith)

  pub spread_in : (seals : List (List ℕ)) (seal : List ℕ) → signed set i ≡ true → seal ≡ field (16 * before set i) 16 bs → seals ≡ spread set bs i → set_at_place seals i seal ≡ spread set bs (i + 1)
  spread_in seals seal s e inv =
      let here : seal ≡ seal_in set bs i = rw s e in
      ap (λ (l : List (List ℕ)). set_at_place l i seal) inv ∙
      fill_more (map (seal_in set bs) (range_with_len 0 i)) no_seal 16 i (length-map-range_with_len (seal_in set bs) 0 i) h seal ∙
      ap (λ (l : List (List ℕ)). l ++ replicate (16 - (i + 1)) no_seal)
      (ap (λ (x : List ℕ). map (seal_in set bs) (range_with_len 0 i) ++ x ∷ []) here ∙ sym next)

  pub spread_out : (seals : List (List ℕ)) → signed set i ≡ false → seals ≡ spread set bs i → seals ≡ spread set bs (i + 1)
  spread_out seals s inv =
      let here : no_seal ≡ seal_in set bs i = rw s in
      inv ∙
      leave_more (map (seal_in set bs) (range_with_len 0 i)) no_seal 16 i (length-map-range_with_len (seal_in set bs) 0 i) h ∙
      ap (λ (l : List (List ℕ)). l ++ replicate (16 - (i + 1)) no_seal)
      (ap (λ (x : List ℕ). map (seal_in set bs) (range_with_len 0 i) ++ x ∷ []) here ∙ sym next)

-- no bit from n on
pub below_none : (set n : ℕ) → eqb (set / 2 ^ n) 0 ≡ ltb set (2 ^ n)
below_none set n =
    let pos = pow_pos n in
    let whole = mod-add-div set (2 ^ n) in
    let low = mod-lt set pos in
    let small : set < 2 ^ n → set / 2 ^ n ≡ 0 = λ h. div-eq_of_lt h in
    let large : set / 2 ^ n ≡ 0 → set < 2 ^ n = λ e. let z : 2 ^ n * (set / 2 ^ n) ≡ 0 = rw (e, mul-zero) in omega arith in
    grind (arith, nat_tests)

-- no set of sixteen consoles has a signer above 15
pub none_above : (q i : ℕ) → q < 65536 → 16 ≤ i → signed q i ≡ false
none_above q i h l =
    let p : 65536 ≤ 2 ^ i = pow_mono {i = 16} {j = i} l in
    let d : q / 2 ^ i ≡ 0 = div-eq_of_lt (omega arith) in
    ap (λ (k : ℕ). eqb (k % 2) 1) d

-- the parts that are still to come at console i, of the bytes cut into sixteens
abbrev pub parts_from : ℕ → List ℕ → ℕ → List (List ℕ)
parts_from set bs i = drop (before set i) (first_chunks 16 (length bs / 16) bs)

pub parts_first : (set : ℕ) (bs : List ℕ) → first_chunks 16 (length bs / 16) bs ≡ parts_from set bs 0
parts_first set bs = ap (λ (n : ℕ). drop n (first_chunks 16 (length bs / 16) bs)) (sym (before_none set))

pub parts_kept : (set : ℕ) (bs : List ℕ) (i : ℕ) → signed set i ≡ false → parts_from set bs i ≡ parts_from set bs (i + 1)
parts_kept set bs i s = ap (λ (n : ℕ). drop n (first_chunks 16 (length bs / 16) bs)) (sym (before_out set i s))

-- a signer's part comes next
module _ (set : ℕ) (bs : List ℕ) (i : ℕ) (low : set < 65536) (below : i < 16) (room : 16 * ones set ≤ length bs) (s : signed set i ≡ true) (rest : List (List ℕ)) (e : rest ≡ parts_from set bs i) where
  part_next : rest ≡ field (16 * before set i) 16 bs ∷ parts_from set bs (i + 1)
  part_next =
      let more = before_signer set i low below s in
      let n : before set i < length bs / 16 = omega arith in
      let long = length-first_chunks 16 (length bs / 16) bs in
      let at = chunk_at 16 (length bs / 16) (before set i) bs n in
      let cut = drop_more (first_chunks 16 (length bs / 16) bs) (before set i) [] (omega arith) in
      let next = before_in set i s in
      cc

  pub part_taken : (part : List ℕ) (after : List (List ℕ)) → rest ≡ part ∷ after → (part ≡ field (16 * before set i) 16 bs) × (after ≡ parts_from set bs (i + 1))
  part_taken part after f = let n = part_next in (cc, cc)

  pub part_there : length rest ≡ 0 → ⊥
  part_there z = let n : length rest ≡ suc (length (parts_from set bs (i + 1))) = ap length part_next in omega arith
