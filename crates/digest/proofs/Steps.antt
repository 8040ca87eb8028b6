-- The step of each recursion of specs/Sha256.
use Rattle.std.proofs.Common.{◌≡◌, ℕ, ◌+◌, ◌-◌, ◌*◌, ◌<◌, ◌≤◌, true, false, ltb, List, length, get_or, take, drop, set, add-one, arith}
use Rattle.std.proofs.lemmas.List.{take_all, take_more_set, get_or-drop, get_or-take}
use Rattle.std.proofs.lemmas.Bool.Decides.{nat_tests}
use Rattle.digest.specs.declared.state.State.{State}
use Rattle.digest.specs.Sha256.{K, round, rounds, schedule, grown, next_word, block_word, mixed_word, compress, absorb}

pub rounds_more : (t : ℕ) (v : State) (ws : List ℕ) → rounds (t + 1) v ws ≡ round (rounds t v ws) (get_or K t 0) (get_or ws t 0)
unfolding rounds
rounds_more t v ws = rw add-one

pub schedule_more : (block : List ℕ) (t : ℕ) → schedule block (t + 1) ≡ grown block (schedule block t) t
unfolding schedule
schedule_more block t = rw (add-one t)

pub absorb_more : (n : ℕ) (v : State) (xs : List ℕ) → absorb (n + 1) v xs ≡ compress (absorb n v xs) (take 64 (drop (64 * n) xs))
unfolding absorb
absorb_more n v xs = rw add-one

-- one more word of the schedule, read from the block or made of those before it
pub schedule_step : (block ws : List ℕ) (t x : ℕ) → t < length ws → x ≡ next_word block (take t ws) t → take t ws ≡ schedule block t → take (t + 1) (set ws t x) ≡ schedule block (t + 1)
schedule_step block ws t x h e p = let a = take_more_set ws t x h in let b = schedule_more block t in cc

pub word_read : (block ws : List ℕ) (t x : ℕ) → t < 16 → x ≡ block_word block t → x ≡ next_word block ws t
word_read block ws t x h e = let q : ltb t 16 ≡ true = grind (arith, nat_tests) in rw q e

pub word_mixed : (block ws : List ℕ) (t x : ℕ) → 16 ≤ t → x ≡ mixed_word ws t → x ≡ next_word block (take t ws) t
word_mixed block ws t x h e =
    let q : ltb t 16 ≡ false = grind (arith, nat_tests) in
    let h2 : t - 2 < t = omega arith in
    let h7 : t - 7 < t = omega arith in
    let h15 : t - 15 < t = omega arith in
    let h16 : t - 16 < t = omega arith in
    rw (q, get_or-take t ws (t - 2) 0 h2, get_or-take t ws (t - 7) 0 h7, get_or-take t ws (t - 15) 0 h15, get_or-take t ws (t - 16) 0 h16) e

-- round m of the eight from round t on
pub round_among : {m n : ℕ} {v r : State} (t j : ℕ) (s : State) (words ks ws : List ℕ) → ks ≡ take 8 (drop t K) → ws ≡ take 8 (drop t words) → v ≡ rounds m s words → r ≡ round v (get_or ks j 0) (get_or ws j 0) → j < 8 → m ≡ t + j → n ≡ t + j + 1 → r ≡ rounds n s words
round_among t j s words ks ws a b v r h p q =
    let k = get_or-take 8 (drop t K) j 0 h in
    let l = get_or-drop t K j 0 in
    let w = get_or-take 8 (drop t words) j 0 h in
    let x = get_or-drop t words j 0 in
    let e = rounds_more (t + j) s words in
    cc

pub schedule-all : (block ws : List ℕ) (t : ℕ) → t ≡ 64 → length ws ≡ 64 → take t ws ≡ schedule block t → ws ≡ schedule block 64
schedule-all block ws t h l e = let h' : length ws ≤ t = omega arith in let a = take_all t ws h' in cc
