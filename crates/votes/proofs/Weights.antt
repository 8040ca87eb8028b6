-- The quorum law, by weights; counting is the case of weights of 1.
use Rattle.std.proofs.Common.{◌≡◌, ℕ, zero, suc, ◌+◌, ◌/◌, ◌%◌, ◌^◌, ◌<◌, ◌≤◌, Bool, true, false, cond, not, T, eqb, ◌⊎◌, sym, refl, ap, ◌∙◌, subst, ap₂, inl, inr, mod-lt, mod-eq_of_lt, add_comm, one-add, arith, le→leb, eqb→eq, leb→le, pow_pos}
use native.Mathlib.Nat.{mod-one}
use lib.Count.{ones, ones_cat}
use lib.Pow.{mod-pow-add}
use Rattle.votes.specs.Quorum.{in_set, weight, weigh, total, spare, enough, is_weighty, is_quorum, alike, Light, Few, Shared, QuorumsShare, SoundSuffice, Counting, Counted}

-- one console of weight x is in both parts and sound, or adds no more to the two parts than to the whole and the unsound
one_more : (sound p r : Bool) (x : ℕ) → (T sound × T p × T r) ⊎ (cond p x 0 + cond r x 0 ≤ x + cond (not sound) x 0)
one_more true true true x = inl (tt, tt, tt)
one_more true true false x = inr (omega arith)
one_more true false true x = inr (omega arith)
one_more true false false x = inr (omega arith)
one_more false true true x = inr (omega arith)
one_more false true false x = inr (omega arith)
one_more false false true x = inr (omega arith)
one_more false false false x = inr (omega arith)

-- some sound console is in both parts, or the two weigh no more than the whole and the unsound together
overlap : (n : ℕ) (w : ℕ → ℕ) (sound p r : ℕ → Bool)
    → ((i : ℕ) × (i < n) × T (sound i) × T (p i) × T (r i)) ⊎ (weight n w p + weight n w r ≤ total n w + weight n w (λ i. not (sound i)))
unfolding weight
overlap zero w sound p r = inr (omega arith)
overlap (suc n) w sound p r = step (one_more (sound n) (p n) (r n) (w n)) (overlap n w sound p r)
  where
    step : (T (sound n) × T (p n) × T (r n)) ⊎ (cond (p n) (w n) 0 + cond (r n) (w n) 0 ≤ w n + cond (not (sound n)) (w n) 0)
        → ((i : ℕ) × (i < n) × T (sound i) × T (p i) × T (r i)) ⊎ (weight n w p + weight n w r ≤ total n w + weight n w (λ i. not (sound i)))
        → ((i : ℕ) × (i < suc n) × T (sound i) × T (p i) × T (r i))
        ⊎ (weight (suc n) w p + weight (suc n) w r ≤ total (suc n) w + weight (suc n) w (λ i. not (sound i)))
    step (inl f) below = inl (n, omega arith, f.0, f.1, f.2)
    step (inr h) (inl f) = inl (f.0, omega (arith, f.1), f.2, f.3, f.4)
    step (inr h) (inr k) = inr (omega arith)

-- the sound and the unsound make the whole
halves : (n : ℕ) (w : ℕ → ℕ) (p : ℕ → Bool) → weight n w p + weight n w (λ i. not (p i)) ≡ total n w
unfolding weight
halves zero w p = refl
halves (suc n) w p = omega (arith, halves n w p, either (p n) (w n))
  where
    either : (b : Bool) (x : ℕ) → cond b x 0 + cond (not b) x 0 ≡ x
    either true x = omega arith
    either false x = omega arith

-- a part of a part weighs no more
wider : (n : ℕ) (w : ℕ → ℕ) (p r : ℕ → Bool) → ((i : ℕ) → i < n → T (p i) → T (r i)) → weight n w p ≤ weight n w r
unfolding weight
wider zero w p r f = omega arith
wider (suc n) w p r f = omega (arith, wider n w p r (λ i l. f i (omega (arith, l))), each (p n) (r n) (w n) (f n (omega arith)))
  where
    each : (a b : Bool) (x : ℕ) → (T a → T b) → cond a x 0 ≤ cond b x 0
    each true true x f = omega arith
    each true false x f = absurd (f tt)
    each false b x f = omega arith

-- two quorums with no sound console in common would weigh more than there is
pub share : QuorumsShare
share n w sound some light q r a b = found (overlap n w sound (in_set q) (in_set r))
  where
    found : ((i : ℕ) × (i < n) × T (sound i) × T (in_set q i) × T (in_set r i))
        ⊎ (weigh n w q + weigh n w r ≤ total n w + weight n w (λ i. not (sound i))) → Shared n sound q r
    found (inl f) = (f.0, f.1, f.2, eqb→eq _ _ f.3, eqb→eq _ _ f.4)
    found (inr h) = absurd (omega (arith, leb→le _ _ a, leb→le _ _ b))

pub suffice : SoundSuffice
suffice n w sound light q f =
    let in-q : (i : ℕ) → i < n → T (sound i) → T (in_set q i) = λ i l t. subst (λ x. T (eqb x 1)) (sym (f i l t)) tt in
    le→leb _ _ (omega (arith, halves n w sound, wider n w sound (in_set q) in-q))

-- ---- counting

-- one more bit of a set
ones_more : (n q : ℕ) → ones (q % 2 ^ suc n) ≡ ones (q % 2 ^ n) + cond (in_set q n) 1 0
unfolding ones
ones_more n q =
    ap (λ x. ones (q % 2 ^ x)) (sym (one-add n)) ∙ ap ones (mod-pow-add q 1 n) ∙ ones_cat n (q / 2 ^ n % 2 ^ 1) (q % 2 ^ n) (mod-lt q (pow_pos n))
    ∙ ap (λ x. x + ones (q % 2 ^ n)) (bit (q / 2 ^ n % 2) (mod-lt (q / 2 ^ n) (omega arith))) ∙ add_comm (cond (in_set q n) 1 0) (ones (q % 2 ^ n))
  where
    bit : (x : ℕ) → x < 2 → ones x ≡ cond (eqb x 1) 1 0
    bit zero l = refl
    bit (suc zero) l = refl
    bit (suc (suc x)) l = absurd (omega arith)

pub counts_cut : (n q : ℕ) → weigh n alike q ≡ ones (q % 2 ^ n)
unfolding weight ones
counts_cut zero q = ap ones (sym (mod-one q))
counts_cut (suc n) q = ap (λ x. x + cond (in_set q n) 1 0) (counts_cut n q) ∙ sym (ones_more n q)

pub counts : (n q : ℕ) → q < 2 ^ n → weigh n alike q ≡ ones q
counts n q l = counts_cut n q ∙ ap ones (mod-eq_of_lt l)

pub total_alike : (n : ℕ) → total n alike ≡ n
unfolding weight
total_alike zero = refl
total_alike (suc n) = omega (arith, total_alike n)

pub quorum_by_count : (n q : ℕ) → q < 2 ^ n → is_quorum n q ≡ is_weighty n alike q
quorum_by_count n q l = ap₂ enough (sym (total_alike n)) (sym (counts n q l))

pub counting : Counting
counting = record { counts = counts; cuts = counts_cut; whole = total_alike; quorum = quorum_by_count }

-- few unsound consoles are light ones
light : (n : ℕ) (sound : ℕ → Bool) → Few n sound → Light n alike sound
light n sound few = subst (λ x. weight n alike (λ i. not (sound i)) ≤ spare x) (sym (total_alike n)) few

pub counted : Counted
counted = record {
  share = λ n sound some few q r lq lr a b.
      share n alike sound (omega (arith, total_alike n)) (light n sound few) q r
      (subst T (quorum_by_count n q lq) a) (subst T (quorum_by_count n r lr) b);
  suffice = λ n sound few q l f. subst T (sym (quorum_by_count n q l)) (suffice n alike sound (light n sound few) q f);
}
