-- Sets of consoles as numbers: joining two, and entering one console.
use Rattle.std.proofs.Common.{◌≡◌, ℕ, zero, suc, ◌+◌, ◌-◌, ◌*◌, ◌/◌, ◌%◌, ◌^◌, ◌<◌, ◌⊎◌, sym, refl, ap, ◌∙◌, inl, inr, mod-lt, one-mul, arith}
use native.Mathlib.Nat.{div-eq_of_lt}
use lib.Bits.{bit_or}
use Rattle.std.proofs.lemmas.Nat.{or_shr, or_mod, or_lt, pow-add, pow_below, shl-shr}
use Rattle.std.proofs.lemmas.Bool.{cases_order}
use Rattle.votes.specs.Quorum.{Holds}

-- bit i of two sets joined
or_bit : (q r i : ℕ) → bit_or q r / 2 ^ i % 2 ≡ bit_or (q / 2 ^ i % 2) (r / 2 ^ i % 2)
or_bit q r i = ap (λ x. x % 2) (or_shr q r i) ∙ or_mod (q / 2 ^ i) (r / 2 ^ i) 1

-- two bits joined
one_of : (x y : ℕ) → x < 2 → y < 2 → bit_or x y ≡ 1 → (x ≡ 1) ⊎ (y ≡ 1)
one_of zero y lx ly e = inr e
one_of (suc zero) y lx ly e = inl refl
one_of (suc (suc x)) y lx ly e = absurd (omega (arith, lx))

one_left : (x y : ℕ) → y < 2 → x ≡ 1 → bit_or x y ≡ 1
one_left x zero l e = ap (λ z. bit_or z 0) e
one_left x (suc zero) l e = ap (λ z. bit_or z 1) e
one_left x (suc (suc y)) l e = absurd (omega (arith, l))

one_right : (x y : ℕ) → x < 2 → y ≡ 1 → bit_or x y ≡ 1
one_right zero y l e = ap (bit_or 0) e
one_right (suc zero) y l e = ap (bit_or 1) e
one_right (suc (suc x)) y l e = absurd (omega (arith, l))

bit_below : (q i : ℕ) → q / 2 ^ i % 2 < 2
bit_below q i = mod-lt (q / 2 ^ i) (omega arith)

-- a console is in the join when it is in either
pub holds_or : (q r i : ℕ) → Holds (bit_or q r) i → Holds q i ⊎ Holds r i
holds_or q r i h = one_of (q / 2 ^ i % 2) (r / 2 ^ i % 2) (bit_below q i) (bit_below r i) (sym (or_bit q r i) ∙ h)

pub or_holds_left : (q r i : ℕ) → Holds q i → Holds (bit_or q r) i
or_holds_left q r i h = or_bit q r i ∙ one_left (q / 2 ^ i % 2) (r / 2 ^ i % 2) (bit_below r i) h

pub or_holds_right : (q r i : ℕ) → Holds r i → Holds (bit_or q r) i
or_holds_right q r i h = or_bit q r i ∙ one_right (q / 2 ^ i % 2) (r / 2 ^ i % 2) (bit_below q i) h

-- the set of console i alone
pub alone_holds : (i : ℕ) → Holds (2 ^ i) i
alone_holds i = ap (λ x. x / 2 ^ i % 2) (sym (one-mul (2 ^ i))) ∙ ap (λ x. x % 2) (shl-shr 1 i)

pub holds_alone : (i j : ℕ) → Holds (2 ^ i) j → j ≡ i
holds_alone i j h = at (cases_order j i)
  where
    at : (j ≡ i) ⊎ ((j < i) ⊎ (i < j)) → j ≡ i
    at (inl e) = e
    at (inr (inl l)) =
        let m = i - suc j in
        let split : 2 ^ i ≡ 2 ^ suc m * 2 ^ j =
        ap (λ x. 2 ^ x) (let e : i ≡ suc m + j = omega (arith, l) in e) ∙ pow-add 2 (suc m) j in
        let even : 2 ^ i / 2 ^ j ≡ 2 ^ suc m = ap (λ x. x / 2 ^ j) split ∙ shl-shr (2 ^ suc m) j in
        absurd (omega (arith, h, even))
    at (inr (inr l)) = absurd (omega (arith, h, div-eq_of_lt (pow_below i j l)))

-- console i entered into the set q: the consoles of q and i, and no other
pub holds_entered : (q i j : ℕ) → Holds (bit_or q (2 ^ i)) j → Holds q j ⊎ (j ≡ i)
holds_entered q i j h = at (holds_or q (2 ^ i) j h)
  where
    at : Holds q j ⊎ Holds (2 ^ i) j → Holds q j ⊎ (j ≡ i)
    at (inl k) = inl k
    at (inr k) = inr (holds_alone i j k)

pub entered_holds : (q i : ℕ) → Holds (bit_or q (2 ^ i)) i
entered_holds q i = or_holds_right q (2 ^ i) i (alone_holds i)

pub entered_below : (n q i : ℕ) → q < 2 ^ n → i < n → bit_or q (2 ^ i) < 2 ^ n
entered_below n q i l m = or_lt n q (2 ^ i) l (pow_below i n m)
