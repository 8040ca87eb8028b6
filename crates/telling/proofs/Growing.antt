-- Text that grows by one item a turn.
use Rattle.std.proofs.Common.{◌≡◌, ℕ, zero, suc, ◌+◌, ◌*◌, ◌/◌, ◌%◌, ◌^◌, ◌<◌, Bool, true, false, cond, List, [], ◌∷◌, ◌++◌, map, IfOk, Ok, Err, Result, sym, refl, ◌∙◌, append-nil, map-id, mod-lt, mod-eq_of_lt, zero-mul, add-one, one-add, arith, lit<}
use native.Mathlib.Nat.{mod-one}
use borrow.Author.Tests.{eqb-false}
use lib.Pow.{mod-pow-add}
use Rattle.std.specs.List.{range_with_len}
use Rattle.std.specs.Fmt.{IsPlainFormatter, HasWritten}
use Rattle.std.specs.declared.fmt.Formatter.{Formatter}
use Rattle.std.proofs.Output.{has_written_of_eq, writes_in_calls_nil}
use Rattle.std.proofs.lemmas.List.FromFn.{filter_of_map_range_with_len_more}
use Rattle.std.proofs.lemmas.List.{flat_map_more, map_push}
use Rattle.wire.specs.Format.{signed}
use Rattle.telling.specs.Lists.{led, or_dash, passing}

-- nothing is written
pub nothing_written : {W : Type 0} (took : W → List ℕ → W → Type 0) (f : Formatter W) (bs : List ℕ) → bs ≡ [] → IsPlainFormatter f → HasWritten took f bs f
nothing_written took f bs none plain =
    has_written_of_eq took f [] bs f (sym none) (record { wrote = writes_in_calls_nil took f.writer; plain = plain })

-- one item more
led_more : (by : List ℕ) (items : List (List ℕ)) (item : List ℕ) → led by items ++ (by ++ item) ≡ led by (items ++ item ∷ [])
led_more by items item = flat_map_more (λ (i : List ℕ). by ++ i) [] items item

-- the numbers that pass, one more looked at
passing_more : (test : ℕ → Bool) (a n j : ℕ) → a + n ≡ j → passing test a (n + 1) ≡ passing test a n ++ cond (test j) (j ∷ []) []
unfolding passing
passing_more test a n j e =
    rw (map-id (range_with_len a (n + 1)), map-id (range_with_len a n)) at (filter_of_map_range_with_len_more test (λ (k : ℕ). k) a n j e)

passing_none : (test : ℕ → Bool) (a : ℕ) → passing test a 0 ≡ []
unfolding passing
passing_none test a = refl

module _ (by : List ℕ) (f : ℕ → List ℕ) (test : ℕ → Bool) (a : ℕ) where
  pub passed_none : led by (map f (passing test a 0)) ≡ []
  passed_none = rw passing_none

  passed_by : (ps : List ℕ) (j : ℕ) (b : Bool) → led by (map f ps) ++ cond b (by ++ f j) [] ≡ led by (map f (ps ++ cond b (j ∷ []) []))
  passed_by ps j true = rw (map_push f ps j) (led_more by (map f ps) (f j))
  passed_by ps j false = rw (append-nil (led by (map f ps)), append-nil ps)

  -- a number that passes adds itself, another one nothing
  pub passed_more : (n j : ℕ) → a + n ≡ j → led by (map f (passing test a n)) ++ cond (test j) (by ++ f j) [] ≡ led by (map f (passing test a (n + 1)))
  passed_more n j e = rw (passing_more test a n j e) (passed_by (passing test a n) j (test j))

parts_none : {X : Type 0} (xs ys : List X) → xs ++ ys ≡ [] → (xs ≡ []) × (ys ≡ [])
parts_none [] ys e = (refl, e)
parts_none (x ∷ xs) ys e = let z : ◌≡◌ {A = ℕ} 0 1 = cc in absurd (omega arith)

not_kept : {X : Type 0} (b : Bool) (x : X) → cond b (x ∷ []) [] ≡ [] → b ≡ false
not_kept true x e = let z : ◌≡◌ {A = ℕ} 0 1 = cc in absurd (omega arith)
not_kept false x e = refl

-- no bit below n is one
no_bits : (set n : ℕ) → passing (signed set) 0 n ≡ [] → set % 2 ^ n ≡ 0
no_bits set zero e = mod-one set
no_bits set (suc n) e =
    let more = passing_more (signed set) 0 n n (omega arith) in
    let here : passing (signed set) 0 (n + 1) ≡ [] = rw (add-one n) e in
    let both = parts_none (passing (signed set) 0 n) (cond (signed set n) (n ∷ []) []) (sym more ∙ here) in
    let below = no_bits set n both.0 in
    let bit = eqb-false (set / 2 ^ n % 2) 1 (not_kept (signed set n) n both.1) in
    let small : set / 2 ^ n % 2 < 2 = mod-lt (set / 2 ^ n) (lit< tt) in
    let zeroed : set / 2 ^ n % 2 ≡ 0 = omega arith in
    let split : set % 2 ^ (1 + n) ≡ set / 2 ^ n % 2 * 2 ^ n + set % 2 ^ n = mod-pow-add set 1 n in
    let high : set / 2 ^ n % 2 * 2 ^ n ≡ 0 = rw (zeroed, zero-mul) in
    rw (← one-add n) (omega arith)

dashless : (items : List (List ℕ)) → (items ≡ [] → ⊥) → or_dash items ≡ items
dashless [] some = absurd (some refl)
dashless (item ∷ items) some = refl

map_none : {X Y : Type 0} (f : X → Y) (xs : List X) → map f xs ≡ [] → xs ≡ []
map_none f [] e = refl
map_none f (x ∷ xs) e = let z : ◌≡◌ {A = ℕ} 0 1 = cc in absurd (omega arith)

-- a set of consoles that is not empty is told without a dash
pub some_consoles : (set : ℕ) (f : ℕ → List ℕ) → set < 65536 → (set ≡ 0 → ⊥) → or_dash (map f (passing (signed set) 0 16)) ≡ map f (passing (signed set) 0 16)
some_consoles set f fits some =
    dashless (map f (passing (signed set) 0 16))
    (λ e. some (sym (mod-eq_of_lt fits) ∙ no_bits set 16 (map_none f (passing (signed set) 0 16) e)))

pub no_consoles : passing (signed 0) 0 16 ≡ []
unfolding passing
no_consoles = refl

-- what holds anyhow, holds if a call went well
pub made_any : {V E : Type 0} (r : Result V E) (P : Type 0) → P → IfOk r (λ _. P)
made_any (Ok v) P p = p
made_any (Err e) P p = tt
