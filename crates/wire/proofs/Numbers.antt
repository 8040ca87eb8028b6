-- A number and its bytes determine one another.
use Rattle.std.proofs.Common.{◌≡◌, ℕ, zero, suc, ◌+◌, ◌*◌, ◌/◌, ◌%◌, ◌^◌, ◌<◌, ◌≤◌, List, [], ◌∷◌, length, get_or, take, drop, sym, refl, ap, ◌∙◌, add_assoc, mod-lt, mod-eq_of_lt, div-one, arith, lit<, length-drop, length-take}
use native.Mathlib.Nat.{pow-succ', mod-one}
use lib.Arith.{mod-mul, digits_lt, digits_div, digits_mod}
use Rattle.std.proofs.lemmas.List.{drop_more, take_all}
use Rattle.wire.specs.Bytes.{be, num, field, number, Octets}

-- as `to_be_bytes` gives it
pub be_1 : (v : ℕ) → v < 256 → be 1 v ≡ v ∷ []
unfolding be
be_1 v h = rw (div-one, mod-eq_of_lt {n = v} {m = 256})

pub be_2 : (v : ℕ) → be 2 v ≡ (v / 256 % 256) ∷ (v % 256) ∷ []
unfolding be
be_2 v = rw div-one

pub be_4 : (v : ℕ) → be 4 v ≡ (v / 16777216 % 256) ∷ (v / 65536 % 256) ∷ (v / 256 % 256) ∷ (v % 256) ∷ []
unfolding be
be_4 v = rw div-one

pub length-be : (w v : ℕ) → length (be w v) ≡ w
unfolding be
length-be zero v = refl
length-be (suc w) v = ap suc (length-be w v)

pub pow_256_pos : (w : ℕ) → 0 < 256 ^ w
pow_256_pos zero = omega arith
pow_256_pos (suc w) = let h = pow_256_pos w in rw pow-succ' (omega arith)

-- the number read back from its bytes
pub num_be_mod : (w v : ℕ) → num (be w v) ≡ v % 256 ^ w
unfolding be num
num_be_mod zero v = sym (mod-one v)
num_be_mod (suc w) v =
    let ih = num_be_mod w v in
    let m = mod-mul v {m = 256} {c = 256 ^ w} (lit< tt) (pow_256_pos w) in
    rw (length-be w v, pow-succ') (cc)

pub num_be : (w v : ℕ) → v < 256 ^ w → num (be w v) ≡ v
num_be w v h = num_be_mod w v ∙ mod-eq_of_lt h

pub num_below : (bs : List ℕ) → Octets bs → num bs < 256 ^ length bs
unfolding num
num_below [] o = lit< tt
num_below (b ∷ bs) o = rw pow-succ' (digits_lt o.0 (num_below bs o.1))

-- what a number of this many bytes has in its bytes
be_from : (bs : List ℕ) → Octets bs → (v : ℕ) → v % 256 ^ length bs ≡ num bs → be (length bs) v ≡ bs
unfolding be num
be_from [] o v e = refl
be_from (b ∷ bs) o v e =
    let p : ℕ = 256 ^ length bs in
    let pos = pow_256_pos (length bs) in
    let below = num_below bs o.1 in
    let m = mod-mul v {m = 256} {c = 256 ^ length bs} (lit< tt) pos in
    let e' : v / 256 ^ length bs % 256 * 256 ^ length bs + v % 256 ^ length bs ≡ b * 256 ^ length bs + num bs = sym m ∙ (rw pow-succ' at e) in
    let high = sym (digits_div (v / 256 ^ length bs % 256) (mod-lt v pos)) ∙ (ap (λ (x : ℕ). x / 256 ^ length bs) e' ∙ digits_div b below) in
    let low = sym (digits_mod (v / 256 ^ length bs % 256) (mod-lt v pos)) ∙ (ap (λ (x : ℕ). x % 256 ^ length bs) e' ∙ digits_mod b below) in
    let ih = be_from bs o.1 v low in
    cc

pub be_num : (bs : List ℕ) → Octets bs → be (length bs) (num bs) ≡ bs
be_num bs o = be_from bs o (num bs) (mod-eq_of_lt (num_below bs o))

-- a number by its first byte and the rest
number_step : (at w : ℕ) (bs : List ℕ) → at + suc w ≤ length bs → number at (suc w) bs ≡ get_or bs at 0 * 256 ^ w + number (at + 1) w bs
unfolding num
number_step at w bs h =
    let here : at < length bs = omega arith in
    let rest : length (take w (drop (at + 1) bs)) ≡ w = simp (length-take, length-drop) (omega arith) in
    rw (drop_more bs at 0 here, rest)

-- as `from_be_bytes` gives it
pub number_1 : (at : ℕ) (bs : List ℕ) → at + 1 ≤ length bs → number at 1 bs ≡ get_or bs at 0
unfolding num
number_1 at bs h = number_step at 0 bs h ∙ omega arith

pub number_2 : (at : ℕ) (bs : List ℕ) → at + 2 ≤ length bs → number at 2 bs ≡ get_or bs at 0 * 256 + get_or bs (at + 1) 0
number_2 at bs h = let s = number_step at 1 bs h in let r = number_1 (at + 1) bs (omega arith) in omega arith

pub number_4 : (at : ℕ) (bs : List ℕ) → at + 4 ≤ length bs → number at 4 bs ≡ get_or bs at 0 * 16777216 + get_or bs (at + 1) 0 * 65536 + get_or bs (at + 2) 0 * 256 + get_or bs (at + 3) 0
number_4 at bs h =
    let a = number_step at 3 bs h in
    let b = number_step (at + 1) 2 bs (omega arith) in
    let r : number (at + 1 + 1) 2 bs ≡ get_or bs (at + 2) 0 * 256 + get_or bs (at + 3) 0 = rw (add_assoc at 1 1) (number_2 (at + 2) bs (omega arith) ∙ rw (add_assoc at 2 1)) in
    omega arith

-- the number in an array of bytes
pub array_2 : (at : ℕ) (bs l : List ℕ) (v : ℕ) → at + 2 ≤ length bs → l ≡ field at 2 bs → v ≡ get_or l 0 0 * 256 + get_or l 1 0 → v ≡ number at 2 bs
array_2 at bs l v h e f =
    let two : length (field at 2 bs) ≡ 2 = simp (length-take, length-drop) (omega arith) in
    let n = number_2 0 l (rw e (omega arith)) in
    f ∙ (sym n ∙ ap num (ap (take 2) e ∙ take_all 2 (field at 2 bs) (omega arith)))

pub array_4 : (at : ℕ) (bs l : List ℕ) (v : ℕ) → at + 4 ≤ length bs → l ≡ field at 4 bs → v ≡ get_or l 0 0 * 16777216 + get_or l 1 0 * 65536 + get_or l 2 0 * 256 + get_or l 3 0 → v ≡ number at 4 bs
array_4 at bs l v h e f =
    let four : length (field at 4 bs) ≡ 4 = simp (length-take, length-drop) (omega arith) in
    let n = number_4 0 l (rw e (omega arith)) in
    f ∙ (sym n ∙ ap num (ap (take 4) e ∙ take_all 4 (field at 4 bs) (omega arith)))
