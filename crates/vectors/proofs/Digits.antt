-- The digits of bytes, and a test that they begin with a text.
use Rattle.std.proofs.Common.{◌≡◌, ℕ, suc, ◌/◌, ◌%◌, ◌<◌, Bool, true, List, [], ◌∷◌, ◌++◌, length, get_or, drop, Decides, refl, sym, ◌∙◌, arith}
use Rattle.std.specs.Array.{IsMapOf}
use Rattle.std.specs.List.{flat_map}
use Rattle.std.specs.Fn.{Mut, Called}
use Rattle.text.specs.Hexadecimal.{hex_digit, hex_pairs}
use Rattle.vectors.specs.Bytes.{Published}

-- one pair of digits after another, each made by a call that gives the digits of its byte
pub pairs_mapped :
    {F : Type 0} (g : Mut F (ℕ × Unit {0}) (List ℕ)) (f : F) (bytes : List ℕ) (all : List (List ℕ)) (n : ℕ) →
    IsMapOf g f bytes all n →
    length bytes ≡ n →
    ((b : ℕ) (d : List ℕ) (p q : F) → Called g p (b, tt) d q → d ≡ hex_digit (b / 16) ∷ hex_digit (b % 16) ∷ []) →
    flat_map (λ x. x) all ≡ hex_pairs bytes
pairs_mapped {F} g f bytes all n made long gives =
    same all bytes (made.long ∙ sym long)
    (λ i below. let one = made.at i 0 [] (omega (arith, made.long)) in gives _ _ one.0 one.1 one.2)
  where
    same :
        (all : List (List ℕ)) (bytes : List ℕ) →
        length all ≡ length bytes →
        ((i : ℕ) → i < length all → get_or all i [] ≡ hex_digit (get_or bytes i 0 / 16) ∷ hex_digit (get_or bytes i 0 % 16) ∷ []) →
        flat_map (λ x. x) all ≡ hex_pairs bytes
    same [] [] l h = refl
    same [] (b ∷ bs) l h = absurd (omega arith)
    same (d ∷ ds) [] l h = absurd (omega arith)
    same (d ∷ ds) (b ∷ bs) l h =
        let first = h 0 (omega arith) in
        let more = same ds bs (omega arith) (λ i below. h (suc i) (omega arith)) in
        rw (first, more) refl

pub published_is : (came text digits needle : List ℕ) (r : Bool) → digits ≡ hex_pairs came → needle ≡ text → (r ≡ true → digits ≡ needle ++ drop (length needle) digits) × ((rest : List ℕ) → digits ≡ needle ++ rest → r ≡ true) → Decides r (Published came text)
published_is came text digits needle r d n b = (
  λ e. let s = b.0 e in (drop (length needle) digits, cc),
  λ p. let rest : List ℕ = p.0 in let q : hex_pairs came ≡ text ++ rest = p.1 in b.1 rest (cc),
)
