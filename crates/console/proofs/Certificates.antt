-- The seals of a certificate, signer by signer.
use Rattle.std.proofs.Common.{◌≡◌, ℕ, zero, suc, ◌+◌, Bool, true, false, not, ◌&&◌, ◌||◌, List, [], ◌∷◌, ◌++◌, get_or, sym, refl, ap, ◌∙◌, add-zero, zero-add, arith}
use Rattle.std.specs.List.{list_all, range_with_len}
use Rattle.std.proofs.lemmas.List.Folds.{list_all-append}
use Rattle.rules.specs.Hear.{votes_for, seals_accepted}
use Rattle.rules.specs.State.{Table}
use Rattle.wire.specs.Format.{signed}
use Rattle.wire.specs.declared.certificate.Signers.{Signers}
use Rattle.wire.specs.declared.key.Key.{Key}
use Rattle.wire.specs.declared.statement.Statement.{Statement}

-- console i has not signed, or its seal is accepted
abbrev pub stands_for : Table → Statement → Signers → ℕ → Bool
stands_for t statement s i = not (signed s.set i) || t i statement (get_or s.seals i [])

-- the numbers from a on, and one more
range_more : (a n : ℕ) → range_with_len a (suc n) ≡ range_with_len a n ++ ((a + n) ∷ [])
range_more a zero = ap (λ (k : ℕ). k ∷ []) (sym (add-zero a))
range_more a (suc n) =
    let e : a + 1 + n ≡ a + suc n = omega arith in
    ap (λ (l : List ℕ). a ∷ l) (range_more (a + 1) n ∙ ap (λ (k : ℕ). range_with_len (a + 1) n ++ (k ∷ [])) e)

and_true : (b : Bool) → (b && true) ≡ b
and_true true = refl
and_true false = refl

-- all seals up to a number, from the first on as from the last back
pub seals_all : (t : Table) (k : Key) (s : Signers) (n : ℕ) → list_all (stands_for t (votes_for k) s) (range_with_len 0 n) ≡ seals_accepted t k s n
unfolding seals_accepted
seals_all t k s zero = refl
seals_all t k s (suc n) =
    let test : ℕ → Bool = stands_for t (votes_for k) s in
    ap (list_all test) (range_more 0 n)
    ∙ list_all-append test (range_with_len 0 n) ((0 + n) ∷ [])
    ∙ ap (λ (b : Bool). b && (test (0 + n) && true)) (seals_all t k s n)
    ∙ ap (λ (b : Bool). seals_accepted t k s n && b) (and_true (test (0 + n)) ∙ ap test (zero-add n))
