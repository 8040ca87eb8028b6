-- Two lists compared by the bits in which they differ.
use Rattle.std.proofs.Common.{◌≡◌, ℕ, ◌+◌, ◌<◌, ◌≤◌, List, length, get_or, take, sym, ap, ◌∙◌, arith}
use lib.Bits.{bit_or, bit_xor, and_le_l, and_le_r, or_add_and, xor_add_and, xor_self}
use Rattle.std.proofs.lemmas.List.{same_from_push, take_all, take_more, take_more_same}

or_none : (a b : ℕ) → bit_or a b ≡ 0 → (a ≡ 0) × (b ≡ 0)
or_none a b h =
    let s = or_add_and a b in
    let l = and_le_l a b in
    let r = and_le_r a b in
    (omega arith, omega arith)

xor_none : (a b : ℕ) → bit_xor a b ≡ 0 → a ≡ b
xor_none a b h = let s = xor_add_and a b in let l = and_le_l a b in let r = and_le_r a b in omega arith

-- the bits seen so far are none exactly when the lists are equal so far
abbrev pub Told : ℕ → ℕ → List ℕ → List ℕ → Type 0
Told d i xs ys = (d ≡ 0 → take i xs ≡ take i ys) × (take i xs ≡ take i ys → d ≡ 0)

pub told_more : (d i : ℕ) (xs ys : List ℕ) → i < length xs → i < length ys → Told d i xs ys → Told (bit_or d (bit_xor (get_or xs i 0) (get_or ys i 0))) (i + 1) xs ys
told_more d i xs ys h k t = (
  λ e.
      let n = or_none d (bit_xor (get_or xs i 0) (get_or ys i 0)) e in
      take_more_same xs ys i 0 h k (t.0 n.0) (xor_none (get_or xs i 0) (get_or ys i 0) n.1),
  λ e.
      let p = same_from_push (take i xs) (take i ys) (get_or xs i 0) (get_or ys i 0) (sym (take_more xs i 0 h) ∙ e ∙ take_more ys i 0 k) in
      let z = t.1 p.0 in
      rw (z, p.1) (xor_self (get_or ys i 0)),
)

pub told-all : (d i : ℕ) (xs ys : List ℕ) → length xs ≤ i → length ys ≤ i → Told d i xs ys → (d ≡ 0 → xs ≡ ys) × (xs ≡ ys → d ≡ 0)
told-all d i xs ys h k t =
    let a = take_all i xs h in let b = take_all i ys k in (λ e. sym a ∙ t.0 e ∙ b, λ e. t.1 (ap (take i) e))
