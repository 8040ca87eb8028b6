-- A list filled from its start, over spare places, an array made by a closure, and a list cut into parts of one length.
use Rattle.std.proofs.Common.{add-zero, zero-add, get_or, zero, subst, ◌≡◌, ℕ, suc, ◌+◌, ◌-◌, ◌<◌, List, [], ◌∷◌, ◌++◌, length, set, replicate, drop, sym, refl, ap, ◌∙◌, arith}
use Rattle.std.proofs.lemmas.List.{append_assoc, set_at}
use Rattle.std.specs.Simd.{first_chunks}
use Rattle.std.specs.Array.{IsFromFnResultFrom}
use Rattle.std.specs.Fn.{Called, Mut}

module _ {X : Type 0} (front : List X) (spare : X) (n i : ℕ) (h : length front ≡ i) (room : i < n) where
  rest_more : replicate (n - i) spare ≡ spare ∷ replicate (n - (i + 1)) spare
  rest_more = let e : n - i ≡ suc (n - (i + 1)) = omega arith in rw e

  -- the next place is filled
  pub fill_more : (x : X) → set (front ++ replicate (n - i) spare) i x ≡ (front ++ x ∷ []) ++ replicate (n - (i + 1)) spare
  fill_more x = rw rest_more (set_at front spare (replicate (n - (i + 1)) spare) x i h ∙ sym (append_assoc front (x ∷ []) _))

  -- the next place is left
  pub leave_more : front ++ replicate (n - i) spare ≡ (front ++ spare ∷ []) ++ replicate (n - (i + 1)) spare
  leave_more = rw rest_more (sym (append_assoc front (spare ∷ []) _))

-- an array made by a closure that keeps what it captures and gives `h i` at each i
made :
    {F X : Type 0} (g : Mut F (ℕ × Unit {0}) X) (f : F) (h : ℕ → X) →
    ((i : ℕ) (x : X) (q : F) → Called g f (i, tt) x q → (q ≡ f) × (x ≡ h i)) →
    (xs : List X) (i n : ℕ) → IsFromFnResultFrom g f xs i n → (k : ℕ) (d : X) → k < n → get_or xs (i + k) d ≡ h (i + k)
made g f h pure xs i zero e k d l = absurd (omega arith)
made g f h pure xs i (suc n) (q, x, at, called, rest) zero d l = rw add-zero (at.1 d ∙ (pure i x q called).1)
made {F} {X} g f h pure xs i (suc n) (q, x, at, called, rest) (suc k) d l =
    let same = (pure i x q called).0 in
    let ih = made g f h pure xs (i + 1) n (subst (λ (p : F). IsFromFnResultFrom g p xs (i + 1) n) same rest) k d (omega arith) in
    let place : i + 1 + k ≡ i + suc k = omega arith in
    subst (λ (j : ℕ). get_or xs j d ≡ h j) place ih

pub made_all :
    {F X : Type 0} (g : Mut F (ℕ × Unit {0}) X) (f : F) (h : ℕ → X) →
    ((i : ℕ) (x : X) (q : F) → Called g f (i, tt) x q → (q ≡ f) × (x ≡ h i)) →
    (xs : List X) (n : ℕ) → IsFromFnResultFrom g f xs 0 n → (k : ℕ) (d : X) → k < n → get_or xs k d ≡ h k
made_all g f h pure xs n e k d l =
    subst (λ (j : ℕ). get_or xs j d ≡ h j) (zero-add k) (made g f h pure xs 0 n e k d l)

pub length-first_chunks : (n k : ℕ) (xs : List ℕ) → length (first_chunks n k xs) ≡ k
length-first_chunks n zero xs = refl
length-first_chunks n (suc k) xs = ap suc (length-first_chunks n k (drop n xs))
