-- The image of three numbers means them again.
use Rattle.std.proofs.Common.{◌≡◌, ℕ, ◌+◌, ◌*◌, ◌<◌, List, [], ◌∷◌, length, get_or, take, sym, refl, ap, ◌∙◌, arith}
use Rattle.std.specs.Prelude.{codes}
use Rattle.std.proofs.lemmas.Bool.{cond-true}
use Rattle.wire.specs.Bytes.{be, number}
use Rattle.wire.proofs.Numbers.{num_be, number_4}
use Rattle.parts.proofs.Sealing.{reads_is, same_itself}
use Rattle.parts.specs.declared.store.Marks.{Marks}
use Rattle.parts.specs.Image.{image, marks_in}

pub image_back :
    (m : Marks) → m.lock < 4294967296 → m.voted < 4294967296 → m.proposed < 4294967296 → marks_in (image m) ≡ m
unfolding be
image_back m l v p =
    let a = num_be 4 m.lock l in
    let b = num_be 4 m.voted v in
    let c = num_be 4 m.proposed p in
    λ i. record { lock = a i; voted = b i; proposed = c i }

-- three words' bytes side by side
abbrev pub side_by_side : List ℕ → List ℕ → List ℕ → List ℕ
side_by_side l v p =
    83 ∷ 84 ∷
    get_or l 0 0 ∷ get_or l 1 0 ∷ get_or l 2 0 ∷ get_or l 3 0 ∷
    get_or v 0 0 ∷ get_or v 1 0 ∷ get_or v 2 0 ∷ get_or v 3 0 ∷
    get_or p 0 0 ∷ get_or p 1 0 ∷ get_or p 2 0 ∷ get_or p 3 0 ∷ []

joined_image : (m : Marks) → side_by_side (be 4 m.lock) (be 4 m.voted) (be 4 m.proposed) ≡ image m
unfolding be
joined_image m = refl

pub image_is :
    (m : Marks) (l v p : List ℕ) →
    l ≡ be 4 m.lock → v ≡ be 4 m.voted → p ≡ be 4 m.proposed → side_by_side l v p ≡ image m
image_is m l v p a b c =
    ap (λ (x : List ℕ). side_by_side x v p) a ∙
    (ap (λ (x : List ℕ). side_by_side (be 4 m.lock) x p) b ∙
    (ap (λ (x : List ℕ). side_by_side (be 4 m.lock) (be 4 m.voted) x) c ∙ joined_image m))

-- three numbers as they are read
pub marks_read :
    (bs : List ℕ) (l v p : ℕ) →
    length bs ≡ 14 →
    get_or bs 0 0 ≡ 83 →
    get_or bs 1 0 ≡ 84 →
    l ≡ get_or bs 2 0 * 16777216 + get_or bs 3 0 * 65536 + get_or bs 4 0 * 256 + get_or bs 5 0 →
    v ≡ get_or bs 6 0 * 16777216 + get_or bs 7 0 * 65536 + get_or bs 8 0 * 256 + get_or bs 9 0 →
    p ≡ get_or bs 10 0 * 16777216 + get_or bs 11 0 * 65536 + get_or bs 12 0 * 256 + get_or bs 13 0 →
    ◌≡◌ {A = Marks} (record { lock = l; voted = v; proposed = p }) (marks_in bs)
marks_read bs l v p long s t a b c =
    let r = reads_is 2 0 bs (omega arith) in
    let begins : take 2 bs ≡ codes "ST" = cc in
    let lock : l ≡ number 2 4 bs = a ∙ sym (number_4 2 bs (omega arith)) in
    let voted : v ≡ number 6 4 bs = b ∙ sym (number_4 6 bs (omega arith)) in
    let proposed : p ≡ number 10 4 bs = c ∙ sym (number_4 10 bs (omega arith)) in
    (λ i. record { lock = lock i; voted = voted i; proposed = proposed i }) ∙ sym (cond-true _ _ _ (same_itself _ _ begins))
