use Rattle.std.proofs.Common.{◌≡◌, List, [], ◌∷◌, ◌++◌, length, replicate, take, None, Option, vec_items, refl, ap, ◌∙◌, arith, rules}
use Rattle.std.specs.List.{FoldsTo}
use Rattle.std.proofs.lemmas.List.{take_all}
use Rattle.pit.specs.declared.seat.Seat.{Seat}
use Rattle.pit.proofs.pit.Pit.new.Goals as goal

-- values that are all made as None
none_made : {F A : Type 0} (step : F → Option A → F → Type 0) (f last : F) (ys : List (Option A)) → ((p : F) (x : Option A) (q : F) → step p x q → x ≡ None) → FoldsTo step f ys last → ys ≡ replicate (length ys) None
none_made step f last [] made folds = refl
none_made step f last (y ∷ ys) made folds =
    let first = made f y folds.0 folds.1 in
    let rest = none_made step folds.0 last ys made folds.2 in
    cc

pub returns-clause-seats : goal.returns-clause-seats
returns-clause-seats c =
    let made = c.in_ok-resize_with.ensures.items in
    let none = none_made _ _ made.1 made.0 (λ p x q s. search rules) made.3 in
    let start : take c.args.n c.new-seats.result.items ≡ [] = rw c.new-seats.ensures.items (take_all c.args.n [] (omega arith)) in
    let all : vec_items c.resize_with.new.self ≡ made.0 = made.2 ∙ ap (λ (l : List (Option Seat)). l ++ made.0) start in
    let many : length made.0 ≡ c.args.n = omega (arith, c.in_ok-resize_with.ensures.len, c.resize_with.new.self.ok.0, ap (λ (l : List (Option Seat)). length l) all) in
    all ∙ (rw many at none)
