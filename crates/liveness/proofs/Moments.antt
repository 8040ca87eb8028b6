-- Earlier and later on one sheet.
use Rattle.std.proofs.Common.{◌≡◌, suc, ◌<◌, ◌≤◌, [], ◌∷◌, ◌++◌, length, sym, refl, ap, ◌∙◌, arith, length-append}
use Rattle.std.proofs.lemmas.List.{append_assoc}
use Rattle.sheets.specs.Sheet.{Sheet, Spot}

-- of two ends of one list the longer has the shorter for its end
pub suffix : (x a y b : Sheet) → x ++ a ≡ y ++ b → length a ≤ length b → (z : Sheet) × (b ≡ z ++ a)
suffix x a [] b e l = (x, sym e)
suffix [] a (c ∷ y) b e l =
    absurd (omega (arith, l, ap (λ (q : Sheet). length q) e, length-append y b))
suffix (d ∷ x) a (c ∷ y) b e l = let f : x ++ a ≡ y ++ b = cc in suffix x a y b f l

-- the line at a spot goes with those before it
pub spot_lines : {sheet : Sheet} (p : Spot sheet) → sheet ≡ (p.later ++ (p.line ∷ [])) ++ p.earlier
spot_lines p = p.here ∙ sym (append_assoc p.later (p.line ∷ []) p.earlier)

-- the earlier of two spots stands before the later
pub spot_before : {sheet : Sheet} (p q : Spot sheet) → length p.earlier < length q.earlier
    → (r : Spot q.earlier) × (r.line ≡ p.line) × (r.earlier ≡ p.earlier)
spot_before p q l =
    let z = suffix p.later (p.line ∷ p.earlier) (q.later ++ (q.line ∷ [])) q.earlier (sym p.here ∙ spot_lines q) l in
    (record { later = z.0; line = p.line; earlier = p.earlier; here = z.1 }, refl, refl)

no_more : (z a : Sheet) → length (z ++ a) ≡ length a → z ++ a ≡ a
no_more [] a e = refl
no_more (l ∷ z) a e = absurd (omega (arith, e, length-append z a))

-- two spots with equally many lines before them are one
pub spot_same : {sheet : Sheet} (p q : Spot sheet) → length p.earlier ≡ length q.earlier → (p.line ≡ q.line) × (p.earlier ≡ q.earlier)
spot_same p q l =
    let z = suffix p.later (p.line ∷ p.earlier) q.later (q.line ∷ q.earlier) (sym p.here ∙ q.here) (omega (arith, l)) in
    let n = no_more z.0 (p.line ∷ p.earlier) (ap (λ (x : Sheet). length x) (sym z.1) ∙ ap suc (sym l)) in
    let e : q.line ∷ q.earlier ≡ p.line ∷ p.earlier = z.1 ∙ n in
    (cc, cc)
