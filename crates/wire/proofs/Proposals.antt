-- The lengths and the parts of a proposal.
use Rattle.std.proofs.Common.{◌≡◌, ℕ, suc, ◌+◌, ◌-◌, ◌*◌, ◌<◌, ◌≤◌, true, false, ◌&&◌, eqb, ltb, List, [], ◌∷◌, length, take, drop, Ok, Err, codes, sym, refl, ap, ◌∙◌, subst, arith}
use lib.Count.{ones}
use Rattle.std.proofs.lemmas.List.{take_all, take_rest, take-take, drop-take, length-drop, length-take}
use Rattle.std.proofs.lemmas.Bool.Decides.{nat_tests}
use Rattle.std.proofs.ByRecursion.{All-take}
use Rattle.std.proofs.lemmas.Bool.{and_parts}
use Rattle.wire.proofs.Bodies.{body_back}
use Rattle.wire.specs.Format.{body_bytes, orders_of, same_key}
use Rattle.wire.specs.declared.body.Body.{Body}
use Rattle.wire.specs.Bytes.{field, num, number, Octets}
use Rattle.wire.specs.Parts.{Lengths, Opens}
use Rattle.wire.specs.Read.{proposal_fits, body_length, past_body, certificate_length, body_part, certificate_part, seal_part, body_in, certificate_in, proposal_in, marked, inner_marks, all_well_formed, body_stands, certificate_stands, proposal_stands, read_proposal, key_at, vote_in, vote_stands, read_vote, read}
use Rattle.wire.specs.declared.message.Vote.{Vote}
use Rattle.wire.specs.declared.message.Message.TheVariants as message
use Rattle.wire.specs.declared.message.Proposal.{Proposal}
use Rattle.wire.specs.declared.unreadable.Unreadable.TheVariants.{Form, Mark}

-- a field of the front is the field of the whole
pub field-take : (at len n : ℕ) (bs : List ℕ) → at + len ≤ n → field at len (take n bs) ≡ field at len bs
field-take at len n bs h =
    let split : at + (n - at) ≡ n = omega arith in
    let d : drop at (take n bs) ≡ take (n - at) (drop at bs) = subst (λ (m : ℕ). drop at (take m bs) ≡ take (n - at) (drop at bs)) split (drop-take at (n - at) bs) in
    ap (take len) d ∙ take-take len (n - at) (drop at bs) (omega arith)

pub unfit_orders : (bs : List ℕ) (k : ℕ) → k ≡ number 42 1 bs → 8 < k → proposal_fits bs ≡ false
unfolding proposal_fits
unfit_orders bs k e h = grind (arith, nat_tests)

pub unfit_short : (bs : List ℕ) (k : ℕ) → k ≡ number 42 1 bs → length bs < 43 + 8 * k + 40 → proposal_fits bs ≡ false
unfolding proposal_fits
unfit_short bs k e h = let d = length-drop (body_length bs) bs in grind (arith, nat_tests)

module _ (bs : List ℕ) (k : ℕ) (is : k ≡ number 42 1 bs) (few : k ≤ 8) (long : 43 + 8 * k + 40 ≤ length bs) where
  pub past_is : take (length bs - (43 + 8 * k)) (drop (43 + 8 * k) bs) ≡ past_body bs
  past_is = take_rest bs (43 + 8 * k) ∙ ap (λ (j : ℕ). drop (43 + 8 * j) bs) is

  past_length : length (past_body bs) ≡ length bs - (43 + 8 * k)
  past_length = let d = length-drop (body_length bs) bs in omega arith

  module _ (set s : ℕ) (q : set ≡ number 38 2 (take (length bs - (43 + 8 * k)) (drop (43 + 8 * k) bs))) (r : s ≡ ones set) (most : s ≤ 16) where
    certificate-is : 40 + 16 * s ≡ certificate_length (past_body bs)
    certificate-is = ap (λ (n : ℕ). 40 + 16 * n) (r ∙ ap ones (q ∙ ap (number 38 2) past_is))

    pub unfit : (length (take (length bs - (43 + 8 * k)) (drop (43 + 8 * k) bs)) ≡ 40 + 16 * s + 16 → ⊥) → proposal_fits bs ≡ false
    unfolding proposal_fits
    unfit n =
        let p = ap length past_is in
        let l = past_length in
        let c = certificate-is in
        let n' : length (past_body bs) ≡ certificate_length (past_body bs) + 16 → ⊥ = λ e. n (p ∙ (e ∙ ap (λ (m : ℕ). m + 16) (sym c))) in
        grind (arith, nat_tests)

    pub fit : length (take (length bs - (43 + 8 * k)) (drop (43 + 8 * k) bs)) ≡ 40 + 16 * s + 16 → Lengths bs (Ok (record { body = 43 + 8 * k; certificate = 40 + 16 * s }))
    unfolding proposal_fits
    fit e =
        let p = ap length past_is in
        let l = past_length in
        let c = certificate-is in
        (grind (arith, nat_tests), omega arith, c, omega arith, omega arith, omega arith, omega arith)

-- what the two lengths cut out
module _ (bs : List ℕ) (b c : ℕ) (l : Lengths bs (Ok (record { body = b; certificate = c }))) (x y z : List ℕ) (e : x ≡ take b bs) (f : y ≡ take c (drop b bs)) (g : z ≡ drop c (drop b bs)) where
  pub body_is : x ≡ body_part bs
  body_is = e ∙ ap (λ (n : ℕ). take n bs) l.1

  pub certificate_part_is : y ≡ certificate_part bs
  certificate_part_is = f ∙ (ap (λ (n : ℕ). take c (drop n bs)) l.1 ∙ ap (λ (n : ℕ). take n (past_body bs)) l.2)

  pub seal_is : z ≡ seal_part bs
  seal_is = g ∙ (ap (λ (n : ℕ). drop c (drop n bs)) l.1 ∙ ap (λ (n : ℕ). drop n (past_body bs)) l.2)

  count_is : number 42 1 x ≡ number 42 1 bs
  count_is = ap (number 42 1) body_is ∙ ap num (field-take 42 1 (body_length bs) bs (omega arith))

  set_is : number 38 2 y ≡ number 38 2 (past_body bs)
  set_is = ap (number 38 2) certificate_part_is ∙ ap num (field-take 38 2 (certificate_length (past_body bs)) (past_body bs) (omega arith))

  pub few_orders : number 42 1 x ≤ 8
  few_orders = let n = count_is in let m = l.3 in omega arith

  pub body_whole : length x ≡ body_length x
  body_whole =
      let n = count_is in
      let m = length-take b bs in
      let h = ap length e in
      omega (arith, l.1, l.6)

  pub certificate_whole : length y ≡ certificate_length y
  certificate_whole =
      let n = ap ones set_is in
      let m = length-take c (drop b bs) in
      let d = length-drop b bs in
      let h = ap length f in
      omega (arith, l.2, l.6)

  pub seal_whole : length z ≡ 16
  seal_whole =
      let m = length-drop c (drop b bs) in
      let d = length-drop b bs in
      let h = ap length g in
      omega (arith, l.6)

  -- the value in these parts
  module _ (n : ℕ) (p : Proposal) (body : p.body ≡ body_in x) (certificate : p.certificate ≡ certificate_in y) (seal : p.seal ≡ z) where
    value-is : p ≡ proposal_in bs
    unfolding proposal_in
    value-is =
        let a = body ∙ ap body_in body_is in
        let b' = certificate ∙ ap certificate_in certificate_part_is in
        let c' = seal ∙ seal_is in
        λ i. record { body = a i; certificate = b' i; seal = c' i }

    marks-are : (marked (codes "BD") x && marked (codes "CT") y) ≡ inner_marks bs
    marks-are = rw (body_is, certificate_part_is)

    pub read-unmarked : (marked (codes "BD") x && marked (codes "CT") y) ≡ false → Err Form ≡ read_proposal n bs
    unfolding read_proposal
    read-unmarked h = let m = sym marks-are ∙ h in rw (l.0, m)

    pub read-fallen : (marked (codes "BD") x && marked (codes "CT") y) ≡ true → proposal_stands n p ≡ false → Err Form ≡ read_proposal n bs
    unfolding read_proposal
    read-fallen h s = let m = sym marks-are ∙ h in let s' = ap (proposal_stands n) (sym value-is) ∙ s in rw (l.0, m, s')

    pub read-stands : (marked (codes "BD") x && marked (codes "CT") y) ≡ true → proposal_stands n p ≡ true → Ok (message.Proposal p) ≡ read_proposal n bs
    unfolding read_proposal
    read-stands h s =
        let m = sym marks-are ∙ h in
        let s' = ap (proposal_stands n) (sym value-is) ∙ s in
        rw (l.0, m, s') (ap (λ (q : Proposal). Ok (message.Proposal q)) value-is)

    pub body-named : Octets bs → (marked (codes "BD") x && marked (codes "CT") y) ≡ true → proposal_stands n p ≡ true → x ≡ body_bytes p.body
    unfolding proposal_stands
    body-named o h s =
        let m = and_parts (marked (codes "BD") x) (marked (codes "CT") y) h in
        let stands = and_parts (body_stands p.body) (certificate_stands n p.certificate && same_key p.certificate.block p.body.parent) s in
        let formed = and_parts (all_well_formed (orders_of p.body.orders)) (ltb p.body.parent.view p.body.view) stands.0 in
        let w : all_well_formed (orders_of (body_in x).orders) ≡ true = ap (λ (b' : Body). all_well_formed (orders_of b'.orders)) (sym body) ∙ formed.0 in
        let octets : Octets x = subst Octets (sym e) (All-take (λ (k : ℕ). k < 256) b bs o) in
        sym (ap body_bytes body ∙ body_back x body_whole octets m.0 w)

-- the value in the bytes after a vote's mark
module _ (n : ℕ) (bs : List ℕ) (h : length bs ≡ 53) (v : Vote) (block : v.block ≡ key_at 0 bs) (voter : v.voter ≡ number 36 1 bs) (seal : v.seal ≡ drop 37 bs) where
  vote_is : v ≡ vote_in bs
  unfolding vote_in
  vote_is = λ i. record { block = block i; voter = voter i; seal = seal i }

  fits : eqb (length bs) 53 ≡ true
  fits = rw h

  pub vote_fallen : vote_stands n v ≡ false → Err Form ≡ read_vote n bs
  unfolding read_vote
  vote_fallen s = let s' = ap (vote_stands n) (sym vote_is) ∙ s in rw (fits, s')

  pub vote_read : vote_stands n v ≡ true → Ok (message.Vote v) ≡ read_vote n bs
  unfolding read_vote
  vote_read s =
      let s' = ap (vote_stands n) (sym vote_is) ∙ s in rw (fits, s') (ap (λ (q : Vote). Ok (message.Vote q)) vote_is)

-- the last 16 bytes of a vote
pub vote_seal : (bs : List ℕ) → length bs ≡ 53 → take 16 (drop 37 bs) ≡ drop 37 bs
vote_seal bs h = let d = length-drop 37 bs in take_all 16 (drop 37 bs) (omega arith)

pub opens : (a b : ℕ) (bs : List ℕ) → Opens a b bs → marked (a ∷ b ∷ []) bs ≡ true
opens a b [] o = absurd (omega arith)
opens a b (x ∷ []) o = absurd (omega arith)
opens a b (x ∷ y ∷ bs) o = grind (arith, nat_tests)

pub opens_not : (a b : ℕ) (bs : List ℕ) → (Opens a b bs → ⊥) → marked (a ∷ b ∷ []) bs ≡ false
opens_not a b [] o = refl
opens_not a b (x ∷ []) o = grind (arith, nat_tests)
opens_not a b (x ∷ y ∷ bs) o =
    let long : 2 ≤ suc (suc (length bs)) = omega arith in
    let no_both : x ≡ a → y ≡ b → ⊥ = λ p q. o (long, p, q) in
    grind (arith, nat_tests)

pub read_as_proposal : (n : ℕ) (bs : List ℕ) → Opens 80 82 bs → read n bs ≡ read_proposal n (drop 2 bs)
unfolding read
read_as_proposal n bs o = let m = opens 80 82 bs o in rw m

pub read_as_vote : (n : ℕ) (bs : List ℕ) → Opens 86 84 bs → read n bs ≡ read_vote n (drop 2 bs)
unfolding read
read_as_vote n bs o =
    let p = opens_not 80 82 bs (λ q. let e : ◌≡◌ {A = ℕ} 86 80 = sym o.1 ∙ q.1 in omega arith) in
    let m = opens 86 84 bs o in
    rw (p, m)

pub read_as_neither : (n : ℕ) (bs : List ℕ) → (Opens 80 82 bs → ⊥) → (Opens 86 84 bs → ⊥) → read n bs ≡ Err Mark
unfolding read
read_as_neither n bs p q = let a = opens_not 80 82 bs p in let b = opens_not 86 84 bs q in rw (a, b)
