-- A certificate and its bytes determine one another.
use Rattle.std.proofs.Common.{◌≡◌, ℕ, zero, suc, ◌+◌, ◌-◌, ◌*◌, ◌^◌, ◌<◌, ◌≤◌, true, cond, List, [], ◌++◌, length, get_or, take, drop, codes, sym, ap, ◌∙◌, subst, add-zero, add-suc, add-sub_of_le, add-one, arith, take-add}
use Rattle.std.proofs.lemmas.List.FromFn.{fill_by_all, get_or-map-range_with_len}
use Rattle.std.proofs.ByRecursion.{All-take, All-drop}
use Rattle.std.proofs.lemmas.List.{append-nil, append_assoc, take_all, take_at, drop_at, drop-drop, length-take, length-drop}
use Rattle.std.proofs.lemmas.Bool.{cond_both}
use Rattle.wire.specs.Bytes.{be, num, field, number, Octets}
use Rattle.wire.specs.Canon.{CertificateFits}
use Rattle.wire.specs.Format.{key_bytes, certificate_bytes, packed_below, packed, signed, no_seal}
use Rattle.wire.specs.Read.{marked, key_at, seal_in, seals_in, certificate_in, certificate_length}
use Rattle.wire.specs.declared.certificate.Certificate.{Certificate}
use Rattle.wire.proofs.Bodies.{cut, key_back, be_field, mark_is}
use Rattle.wire.proofs.Numbers.{num_be, num_below}
use Rattle.wire.proofs.Signing.{before, before_none, before-all, before_in, before_out, packed_in, packed_size}

-- Bytes first: the seals spread out and packed again.
module _ (set : ℕ) (ps : List ℕ) where
  seal_of : (i : ℕ) → i < 16 → get_or (seals_in set ps) i [] ≡ seal_in set ps i
  unfolding seals_in
  seal_of i h = get_or-map-range_with_len (seal_in set ps) 0 16 i i [] h (omega arith)

  packed_back : (i : ℕ) → i ≤ 16 → packed_below i set (seals_in set ps) ≡ take (16 * before set i) ps
  unfolding packed_below
  packed_back zero h = sym (ap (λ (n : ℕ). take (16 * n) ps) (before_none set))
  packed_back (suc i) h =
      let ih = packed_back i (omega arith) in
      let here = seal_of i (omega arith) in
      cond_both (signed set i) (get_or (seals_in set ps) i []) [] (λ (l : List ℕ). packed_below i set (seals_in set ps) ++ l ≡ take (16 * before set (suc i)) ps)
      (λ s.
      let in_set : seal_in set ps i ≡ field (16 * before set i) 16 ps = rw s in
      let n : 16 * before set i + 16 ≡ 16 * before set (suc i) = omega (arith, subst (λ (j : ℕ). before set j ≡ before set i + 1) (add-one i) (before_in set i s)) in
      (λ j. ih j ++ (here ∙ in_set) j) ∙ (sym (take-add (16 * before set i) 16 ps) ∙ ap (λ (m : ℕ). take m ps) n))
      (λ s. append-nil _ ∙ (ih ∙ ap (λ (m : ℕ). take (16 * m) ps) (sym (subst (λ (j : ℕ). before set j ≡ before set i) (add-one i) (before_out set i s)))))

pub set_below : (at : ℕ) (bs : List ℕ) → Octets bs → at + 2 ≤ length bs → number at 2 bs < 65536
set_below at bs o h =
    let len : length (field at 2 bs) ≡ 2 = simp (length-take, length-drop) (omega arith) in
    subst (λ (n : ℕ). number at 2 bs < 256 ^ n) len (num_below (field at 2 bs) (All-take (λ (b : ℕ). b < 256) 2 (drop at bs) (All-drop (λ (b : ℕ). b < 256) at bs o)))

pub certificate_back : (bs : List ℕ) → length bs ≡ certificate_length bs → Octets bs → marked (codes "CT") bs ≡ true → certificate_bytes (certificate_in bs) ≡ bs
unfolding certificate_in certificate_bytes
certificate_back bs h o m =
    let set : ℕ = number 38 2 bs in
    let two = be_field 38 2 bs o (omega arith) in
    let small = set_below 38 bs o (omega arith) in
    let all = before-all (number 38 2 bs) small in
    let rest : length (drop 40 bs) ≤ 16 * before (number 38 2 bs) 16 = simp length-drop (omega arith) in
    let seals = packed_back (number 38 2 bs) (drop 40 bs) 16 (omega arith) ∙ take_all _ _ rest in
    let key = key_back 2 bs o (omega arith) in
    (λ i. mark_is (codes "CT") bs m i ++ (key_bytes (key_at 2 bs) ++ (two i ++ seals i))) ∙
    sym (cut 0 2 bs ∙ ap (λ (l : List ℕ). take 2 bs ++ l)
    (sym key ∙ ap (λ (l : List ℕ). key_bytes (key_at 2 bs) ++ l) (cut 38 2 bs)))

-- Values first.
more_seals : (set : ℕ) (seals : List (List ℕ)) (i k : ℕ) → (rest : List ℕ) × (packed_below (i + k) set seals ≡ packed_below i set seals ++ rest)
unfolding packed_below
more_seals set seals i zero = ([], ap (λ (j : ℕ). packed_below j set seals) (add-zero i) ∙ sym (append-nil _))
more_seals set seals i (suc k) =
    let ih = more_seals set seals i k in
    let x : List ℕ = cond (signed set (i + k)) (get_or seals (i + k) []) [] in
    (ih.0 ++ x, ap (λ (j : ℕ). packed_below j set seals) (add-suc i k) ∙ (ap (λ (l : List ℕ). l ++ x) ih.1 ∙ append_assoc _ ih.0 x))

module _ (c : Certificate) (h : CertificateFits c) where
  full : (i : ℕ) → i < length c.signers.seals → length (get_or c.signers.seals i []) ≡ 16
  full i l = h.seals i (omega (arith, h.sixteen))

  found : (i : ℕ) → i < 16 → signed c.signers.set i ≡ true → field (16 * before c.signers.set i) 16 (packed c.signers) ≡ get_or c.signers.seals i []
  found i l s =
      let seal : List ℕ = get_or c.signers.seals i [] in
      let front : List ℕ = packed_below i c.signers.set c.signers.seals in
      let more = more_seals c.signers.set c.signers.seals (suc i) (16 - suc i) in
      let all : packed c.signers ≡ front ++ (seal ++ more.0) =
      ap (λ (j : ℕ). packed_below j c.signers.set c.signers.seals) (sym (add-sub_of_le l)) ∙ (more.1 ∙
      (ap (λ (l' : List ℕ). l' ++ more.0) (subst (λ (j : ℕ). packed_below j c.signers.set c.signers.seals ≡ front ++ seal) (add-one i) (sym (packed_in c.signers.set c.signers.seals i s))) ∙ append_assoc front seal more.0)) in
      let size = packed_size c.signers.set c.signers.seals full i (omega (arith, h.sixteen)) in
      ap (field (16 * before c.signers.set i) 16) all ∙
      (ap (take 16) (drop_at front (seal ++ more.0) _ size) ∙ take_at seal more.0 16 (h.seals i l))

  seals_forth : seals_in c.signers.set (packed c.signers) ≡ c.signers.seals
  unfolding seals_in
  seals_forth =
      sym (fill_by_all (seal_in c.signers.set (packed c.signers)) c.signers.seals 16 [] h.sixteen
      (λ k l. sym (cond_both (signed c.signers.set k) (field (16 * before c.signers.set k) 16 (packed c.signers)) no_seal (λ (x : List ℕ). x ≡ get_or c.signers.seals k [])
      (λ s. found k l s) (λ s. sym (h.absent k l s)))))

  pub certificate_forth : certificate_in (certificate_bytes c) ≡ c
  unfolding be num certificate_bytes certificate_in
  certificate_forth =
      let x : List ℕ = be 2 c.signers.set ++ packed c.signers in
      let name = take_at c.block.name x 32 h.block.name in
      let past : drop 32 (c.block.name ++ x) ≡ x = drop_at c.block.name x 32 h.block.name in
      let rest : drop 34 (c.block.name ++ x) ≡ packed c.signers = sym (drop-drop 2 32 (c.block.name ++ x)) ∙ ap (drop 2) past in
      let set : number 32 2 (c.block.name ++ x) ≡ c.signers.set = ap (λ (l : List ℕ). num (take 2 l)) past ∙ num_be 2 c.signers.set h.set in
      let seals = (λ i. seals_in (set i) (rest i)) ∙ seals_forth in
      λ i. record {
        block = record { view = num_be 4 c.block.view h.block.view i; name = name i };
        signers = record { set = set i; seals = seals i };
      }
