use Rattle.std.proofs.Common.{◌≡◌, ℕ, zero, suc, ◌-◌, min, List, [], ◌∷◌, length, take, refl, ap, arith}
use Rattle.script.proofs.fault.FaultDisplay.fmt.Goals as goal

first_bytes : (n k : ℕ) (bs : List ℕ) → n ≡ min (length bs) k → take n bs ≡ take k bs
first_bytes zero zero bs e = refl
first_bytes zero (suc k) [] e = refl
first_bytes zero (suc k) (b ∷ bs) e = absurd (omega arith)
first_bytes (suc n) zero bs e = absurd (omega arith)
first_bytes (suc n) (suc k) [] e = refl
first_bytes (suc n) (suc k) (b ∷ bs) e = ap (λ (l : List ℕ). b ∷ l) (first_bytes n k bs (omega arith))

pub returns-in-UnknownWord-clause-writes : goal.returns-in-UnknownWord-clause-writes
returns-in-UnknownWord-clause-writes g c plain ok =
    let first = first_bytes (c.min.result - 0) 32 c.in-UnknownWord.word.now (omega arith) in
    rw (c.in-UnknownWord.is, ← first) (c.write.ensures.writes plain ok)
