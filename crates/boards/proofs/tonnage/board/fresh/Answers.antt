use Rattle.std.proofs.Common.{◌≡◌, ℕ, zero, suc, List, get_or, replicate, refl, ap, ◌∙◌, arith}
use Rattle.boards.specs.Bounds.{no_loads}
use Rattle.boards.specs.declared.tonnage.place.Place.{Place}
use Rattle.boards.proofs.tonnage.board.fresh.Goals as goal

-- before the first load, past the last place too
nothing : (n k : ℕ) → get_or (replicate n no_loads) k no_loads ≡ no_loads
nothing zero k = refl
nothing (suc n) zero = refl
nothing (suc n) (suc k) = nothing n k

pub returns : goal.returns
returns c =
    let none : c.default.result ≡ no_loads = λ i. record { loads = c.default.ensures.0 i; tenths = c.default.ensures.1 i } in
    let all = ap (λ (p : Place). replicate 64 p) none in
    let each = λ (k : ℕ). ap (λ (ps : List Place). get_or ps k no_loads) all ∙ nothing 64 k in
    record {
      all = all;
      earned = λ k. omega (arith, ap (λ (p : Place). p.loads) (each k), ap (λ (p : Place). p.tenths) (each k));
      bounded = λ k. omega (arith, ap (λ (p : Place). p.tenths) (each k));
    }
