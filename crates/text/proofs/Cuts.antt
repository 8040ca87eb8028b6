-- Lines cut at their spaces.
use Rattle.std.proofs.Common.{◌≡◌, ℕ, zero, suc, ◌<◌, Bool, true, false, cond, not, eqb, List, [], ◌∷◌, length, get_or, take, drop, is_some, Some, None, Option, refl, ap, ◌∙◌, arith}
use Rattle.std.specs.List.{AllByRecursion}
use Rattle.std.proofs.lemmas.Bool.Decides.{nat_tests}
use Rattle.std.specs.Option.{option_map}
use Rattle.text.specs.Splitting.{left, none_left, led, split, joined, Spaceless, SplitLaw}

-- one byte more in front
joined_led : (c : ℕ) (fs : List (List ℕ)) → joined (led c fs) ≡ c ∷ joined fs
joined_led c [] = refl
joined_led c (f ∷ []) = refl
joined_led c (f ∷ g ∷ fs) = refl

spaceless_led : (c : ℕ) (fs : List (List ℕ)) → (c ≡ 32 → ⊥) → AllByRecursion Spaceless fs → AllByRecursion Spaceless (led c fs)
spaceless_led c [] no-space all = ((no-space, tt), tt)
spaceless_led c (f ∷ fs) no-space all = ((no-space, all.0), all.1)

some_more : (space : Bool) (c : ℕ) (fs : List (List ℕ)) → 0 < length (cond space ([] ∷ fs) (led c fs))
some_more true c fs = omega arith
some_more false c [] = omega arith
some_more false c (f ∷ fs) = omega arith

-- there is always a first field
split_some : (line : List ℕ) → 0 < length (split line)
split_some [] = omega arith
split_some (c ∷ cs) = some_more (eqb c 32) c (split cs)

cut_more : (space : Bool) (c : ℕ) (cs : List ℕ) (fs : List (List ℕ)) → (space ≡ true → c ≡ 32) → (space ≡ false → c ≡ 32 → ⊥) → 0 < length fs → joined fs ≡ cs → AllByRecursion Spaceless fs → (joined (cond space ([] ∷ fs) (led c fs)) ≡ c ∷ cs) × AllByRecursion Spaceless (cond space ([] ∷ fs) (led c fs))
cut_more true c cs [] is not some e all = absurd (omega arith)
cut_more true c cs (f ∷ fs) is not some e all = let b = is refl in ((cc), (tt, all))
cut_more false c cs fs is not some e all = (joined_led c fs ∙ ap (λ (l : List ℕ). c ∷ l) e, spaceless_led c fs (not refl) all)

pub split_law : SplitLaw
split_law [] = (refl, (tt, tt))
split_law (c ∷ cs) =
    let rest = split_law cs in
    cut_more (eqb c 32) c cs (split cs) (λ e. grind (arith, nat_tests)) (λ e. grind (arith, nat_tests)) (split_some cs) rest.0 rest.1

-- a line with no space is one field
pub split_whole : (line : List ℕ) → ((k : ℕ) → k < length line → get_or line k 0 ≡ 32 → ⊥) → split line ≡ line ∷ []
split_whole [] none = refl
split_whole (c ∷ cs) none =
    let rest = split_whole cs (λ k below. none (suc k) (omega arith)) in
    let here : eqb c 32 ≡ false = let n = none 0 (omega arith) in grind (arith, nat_tests) in
    rw (here, rest)

-- up to its first space a line is its first field
pub split_at : (line : List ℕ) (i : ℕ) → i < length line → ((k : ℕ) → k < i → get_or line k 0 ≡ 32 → ⊥) → get_or line i 0 ≡ 32 → split line ≡ take i line ∷ split (drop (suc i) line)
split_at [] i below none here = absurd (omega arith)
split_at (c ∷ cs) zero below none here =
    let space : eqb c 32 ≡ true = grind (arith, nat_tests) in
    rw space
split_at (c ∷ cs) (suc i) below none here =
    let rest = split_at cs i (omega arith) (λ k under. none (suc k) (omega arith)) here in
    let other : eqb c 32 ≡ false = let n = none 0 (omega arith) in grind (arith, nat_tests) in
    rw (other, rest)

some_left : (fs : List (List ℕ)) → 0 < length fs → false ≡ none_left fs
some_left [] some = absurd (omega arith)
some_left (f ∷ fs) some = refl

-- no field is left just where nothing is left of the line
pub none_left_is : {X : Type 0} (f : X → List ℕ) (rest : Option X) → not (is_some rest) ≡ none_left (left (option_map f rest))
none_left_is f None = refl
none_left_is f (Some line) = some_left (split (f line)) (split_some (f line))
