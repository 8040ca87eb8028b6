-- Tests that compute, and what it says when one passes.
use Rattle.std.proofs.Common.{◌≡◌, ℕ, zero, suc, ◌<◌, Bool, true, false, ◌&&◌, ◌||◌, T, eqb, ◌⊎◌, List, [], ◌∷◌, Some, None, Option, sym, refl, subst, inl, inr, arith}
use mathlib.Core.List.{Memᴰ}
use Rattle.std.proofs.lemmas.Bool.Decides.{eqb_tells}
use Rattle.std.specs.List.{AllByRecursion}
use Rattle.sheets.specs.Sheet.{Pit, Sound}

pub both : (a b : Bool) → T (a && b) → T a × T b
both true b t = (tt, t)
both false b t = absurd t

pub joint : (a b : Bool) → T a → T b → T (a && b)
joint true b s t = t
joint false b s t = absurd s

pub either : (a b : Bool) → T (a || b) → T a ⊎ T b
either true b t = inl tt
either false b t = inr t

-- A test that is made only where the first one passes.
abbrev pub if_then : Bool → (Unit {0} → Bool) → Bool
if_then true f = f tt
if_then false f = true

pub given : (b : Bool) (f : Unit {0} → Bool) → T (if_then b f) → T b → T (f tt)
given true f t s = t
given false f t s = absurd s

-- Tests of what may be there: passed if it is not, or only if it is.
abbrev pub on_some : {A : Type 0} → (A → Bool) → Option A → Bool
on_some f None = true
on_some f (Some x) = f x

abbrev pub is_some : {A : Type 0} → (A → Bool) → Option A → Bool
is_some f None = false
is_some f (Some x) = f x

pub of_some : {A : Type 0} (f : A → Bool) (o : Option A) (x : A) → T (on_some f o) → o ≡ Some x → T (f x)
of_some f o x t e = subst (λ y. T (on_some f y)) e t

pub some_is : {A : Type 0} (f : A → Bool) (o : Option A) → T (is_some f o) → (x : A) × (o ≡ Some x) × T (f x)
some_is f None t = absurd t
some_is f (Some x) t = (x, refl, t)

-- Tests of lists.
unfoldable pub all_of : {A : Type 0} → (A → Bool) → List A → Bool
all_of f [] = true
all_of f (x ∷ xs) = f x && all_of f xs

unfoldable pub any_of : {A : Type 0} → (A → Bool) → List A → Bool
any_of f [] = false
any_of f (x ∷ xs) = f x || any_of f xs

pub all_is : {A : Type 0} (f : A → Bool) (P : A → Type 0) → ((x : A) → T (f x) → P x) → (xs : List A) → T (all_of f xs) → AllByRecursion P xs
unfolding all_of
all_is f P each [] t = tt
all_is f P each (x ∷ xs) t =
    let parts = both (f x) (all_of f xs) t in (each x parts.0, all_is f P each xs parts.1)

pub each_of : {A : Type 0} (f : A → Bool) {x : A} {xs : List A} → Memᴰ x xs → T (all_of f xs) → T (f x)
unfolding all_of
each_of f (Memᴰ.head {x = y} {xs = ys} e) t = subst (λ z. T (f z)) (sym e) (both (f y) (all_of f ys) t).0
each_of f (Memᴰ.tail {x = y} {xs = ys} m) t = each_of f m (both (f y) (all_of f ys) t).1

pub one_of : {A : Type 0} (f : A → Bool) (xs : List A) → T (any_of f xs) → (x : A) × Memᴰ x xs × T (f x)
unfolding any_of
one_of f [] t = absurd t
one_of {A} f (x ∷ xs) t = found (either (f x) (any_of f xs) t) (one_of f xs)
  where
    found : T (f x) ⊎ T (any_of f xs) → (T (any_of f xs) → (y : A) × Memᴰ y xs × T (f y))
        → (y : A) × Memᴰ y (x ∷ xs) × T (f y)
    found (inl s) rest = (x, Memᴰ.head refl, s)
    found (inr s) rest = ((rest s).0, Memᴰ.tail (rest s).1, (rest s).2)

-- Tests of the numbers below n, and of the sound consoles.
unfoldable pub below : (ℕ → Bool) → ℕ → Bool
below f zero = true
below f (suc n) = f n && below f n

pub at_below : (f : ℕ → Bool) (n : ℕ) → T (below f n) → (i : ℕ) → i < n → T (f i)
unfolding below
at_below f zero t i h = absurd (omega arith)
at_below f (suc n) t i h =
    let parts = both (f n) (below f n) t in pick parts.0 (at_below f n parts.1 i) (eqb_tells i n)
  where
    pick : T (f n) → (i < n → T (f i)) → ((eqb i n ≡ true) × (i ≡ n)) ⊎ ((eqb i n ≡ false) × (i ≡ n → ⊥)) → T (f i)
    pick s rest (inl e) = subst (λ j. T (f j)) (sym e.1) s
    pick s rest (inr e) = rest (omega (arith, e.1))

abbrev pub each_sound : Pit → (ℕ → Bool) → Bool
each_sound pit f = below (λ i. if_then (pit.sound i) (λ _. f i)) pit.n

pub at_sound : (pit : Pit) (f : ℕ → Bool) → T (each_sound pit f) → (i : ℕ) → Sound pit i → T (f i)
at_sound pit f t i s =
    given (pit.sound i) (λ _. f i) (at_below (λ j. if_then (pit.sound j) (λ _. f j)) pit.n t i s.0) s.1
