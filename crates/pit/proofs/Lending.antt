-- What holds over a lent shelf holds over the vector that lent it.
use Rattle.std.proofs.Common.{◌≡◌, ℕ, List, ap, subst}
use Rattle.parts.specs.Image.{image, marks_in, no_marks}
use Rattle.parts.specs.declared.store.Marks.{Marks}
use Rattle.rules.specs.Blocks.{Slot}
use Rattle.wire.specs.Bytes.{be, num}

pub lent : (P : List Slot → List Slot → Type 0) {xs ys us vs : List Slot} → xs ≡ ys → us ≡ vs → P xs us → P ys vs
lent P {xs} {ys} {us} {vs} e f p = subst (λ (u : List Slot). P ys u) f (subst (λ (x : List Slot). P x us) e p)

-- likewise, with the number of slots and what the store says
pub opened_over :
    (P : List Slot → ℕ → Marks → Type 0) {us vs : List Slot} {k l : ℕ} {a b : Marks} → us ≡ vs → k ≡ l → a ≡ b → P us k a → P vs l b
opened_over P {us} {vs} {k} {l} {a} {b} e f g p =
    subst (λ (m : Marks). P vs l m) g (subst (λ (n : ℕ). P vs n a) f (subst (λ (x : List Slot). P x k a) e p))

-- the image of three zeros means three zeros
pub zeros_read : (bytes : List ℕ) → bytes ≡ image no_marks → marks_in bytes ≡ no_marks
unfolding be num
zeros_read bytes e = ap marks_in e
