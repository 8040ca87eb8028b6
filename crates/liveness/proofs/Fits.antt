-- What a console keeps fits into the messages that it sends.
use Rattle.std.proofs.Common.{◌≡◌, ℕ, ◌+◌, ◌*◌, ◌^◌, ◌<◌, ◌≤◌, Bool, true, false, ◌&&◌, eqb, leb, ◌⊎◌, List, [], map, length, get_or, drop, set, Ok, codes, Result, sym, refl, ap, ◌∙◌, subst, inl, inr, ⊎_elim, arith, length-set, get_or-set_other, get_or-set_same, pow_pos}
use lib.Bits.{bit_or}
use lib.Count.{ones}
use lib.ListN.{get_or-replicate}
use Rattle.std.specs.List.{range_with_len}
use Rattle.std.proofs.lemmas.List.FromFn.{get_or-map-range_with_len}
use Rattle.std.proofs.ByRecursion.{All-take, All-drop}
use Rattle.std.proofs.lemmas.List.{length-take, length-drop}
use Rattle.std.proofs.lemmas.Bool.{cases_eq, cases_Bool, cond_both, and_parts, both_ways, eqb-true}
use Rattle.votes.specs.Quorum.{Holds}
use Rattle.votes.proofs.Sets.{entered_below, or_holds_left, entered_holds}
use Rattle.wire.specs.Bytes.{Octets, field, number, num}
use Rattle.wire.specs.Format.{signed, no_signers, no_seal}
use Rattle.wire.specs.Read.{marked, judged, read, read_proposal, read_vote, proposal_in, proposal_fits, vote_in, vote_fits, certificate_in, certificate_part, certificate_length, past_body, body_length, seal_in, seals_in}
use Rattle.wire.specs.declared.certificate.Signers.{Signers}
use Rattle.wire.specs.declared.message.Message.{Message}
use Rattle.wire.specs.declared.message.Message.TheVariants as message
use Rattle.wire.specs.declared.message.Proposal.{Proposal}
use Rattle.wire.specs.declared.message.Vote.{Vote}
use Rattle.wire.specs.declared.unreadable.Unreadable.{Unreadable}
use Rattle.wire.proofs.Proposals.{field-take}
use Rattle.wire.proofs.Signing.{before, before_signer}
use Rattle.wire_laws.proofs.Certificates.{set_below}
use Rattle.liveness.proofs.Live.{holds_signed}

-- sixteen seals of 16 bytes, zeros but for the signers, who are below n
pub record Fit (n : ℕ) (t : Signers) : Type 0 where
  pub below : t.set < 2 ^ n
  pub sixteen : length t.seals ≡ 16
  pub seals : (i : ℕ) → i < 16 → length (get_or t.seals i []) ≡ 16
  pub absent : (i : ℕ) → i < 16 → signed t.set i ≡ false → get_or t.seals i [] ≡ no_seal

pub nobody_fits : (n : ℕ) → Fit n no_signers
nobody_fits n = record {
  below = pow_pos n;
  sixteen = refl;
  seals = λ i l. ap (λ (x : List ℕ). length x) (get_or-replicate 16 i no_seal [] l);
  absent = λ i l _. get_or-replicate 16 i no_seal [] l;
}

-- one signer more
pub entered_fits : (n : ℕ) (t : Signers) (voter : ℕ) (seal : List ℕ) → voter < n → n ≤ 16 → length seal ≡ 16 → Fit n t
    → Fit n (record { set = bit_or t.set (2 ^ voter); seals = set t.seals voter seal })
entered_fits n t voter seal l le e f = record {
  below = entered_below n t.set voter f.below l;
  sixteen = length-set t.seals voter seal ∙ f.sixteen;
  seals = λ i li. ⊎_elim
      (λ q. ap (λ (x : List ℕ). length x) (ap (λ (j : ℕ). get_or (set t.seals voter seal) j []) q ∙ get_or-set_same t.seals voter seal [] lies) ∙ e)
      (λ q. ap (λ (x : List ℕ). length x) (get_or-set_other t.seals voter i seal [] q) ∙ f.seals i li) (cases_eq i voter);
  absent = λ i li s. ⊎_elim
      (λ q. absurd (both_ways _ s (holds_signed (bit_or t.set (2 ^ voter)) i
      (subst (λ (j : ℕ). Holds (bit_or t.set (2 ^ voter)) j) (sym q) (entered_holds t.set voter)))))
      (λ q. get_or-set_other t.seals voter i seal [] q ∙ f.absent i li (unsigned i s)) (cases_eq i voter);
}
  where
    lies : voter < length t.seals
    lies = omega (arith, l, le, f.sixteen)

    unsigned : (i : ℕ) → signed (bit_or t.set (2 ^ voter)) i ≡ false → signed t.set i ≡ false
    unsigned i s = ⊎_elim
        (λ y. absurd (both_ways _ s (holds_signed _ i (or_holds_left t.set (2 ^ voter) i (eqb-true _ _ y))))) (λ y. y) (cases_Bool (signed t.set i))

-- ---- what was read fits

read_ok : (fits formed : Bool) (m k : Message) → judged fits formed m ≡ Ok k → (fits ≡ true) × (m ≡ k)
read_ok true true m k e = (refl, cc)
read_ok true false m k e = absurd (let z : ◌≡◌ {A = ℕ} 0 1 = cc in omega arith)
read_ok false formed m k e = absurd (let z : ◌≡◌ {A = ℕ} 0 1 = cc in omega arith)

read_parts : (n : ℕ) (bytes : List ℕ) (m : Message) → read n bytes ≡ Ok m
    → ((proposal_fits (drop 2 bytes) ≡ true) × (message.Proposal (proposal_in (drop 2 bytes)) ≡ m))
    ⊎ ((vote_fits (drop 2 bytes) ≡ true) × (message.Vote (vote_in (drop 2 bytes)) ≡ m))
unfolding read read_proposal read_vote
read_parts n bytes m =
    cond_both (marked (codes "PR") bytes) _ _ Good (λ _ e. inl (read_ok (proposal_fits (drop 2 bytes)) _ _ m e))
    (λ _. cond_both (marked (codes "VT") bytes) _ _ Good (λ _ e. inr (read_ok (vote_fits (drop 2 bytes)) _ _ m e))
    (λ _ e. absurd (let z : ◌≡◌ {A = ℕ} 0 1 = cc in omega arith)))
  where
    Good : Result Message Unreadable → Type 0
    Good x = x ≡ Ok m
        → ((proposal_fits (drop 2 bytes) ≡ true) × (message.Proposal (proposal_in (drop 2 bytes)) ≡ m))
        ⊎ ((vote_fits (drop 2 bytes) ≡ true) × (message.Vote (vote_in (drop 2 bytes)) ≡ m))

pub vote_seal : (n : ℕ) (bytes : List ℕ) (x : Vote) → read n bytes ≡ Ok (message.Vote x) → length x.seal ≡ 16
unfolding vote_in
vote_seal n bytes x e = at (read_parts n bytes (message.Vote x) e)
  where
    at : ((proposal_fits (drop 2 bytes) ≡ true) × (message.Proposal (proposal_in (drop 2 bytes)) ≡ message.Vote x))
        ⊎ ((vote_fits (drop 2 bytes) ≡ true) × (message.Vote (vote_in (drop 2 bytes)) ≡ message.Vote x)) → length x.seal ≡ 16
    at (inl h) = absurd (let p = h.1 in let z : ◌≡◌ {A = ℕ} 0 1 = cc in omega arith)
    at (inr h) =
        let f : length (drop 2 bytes) ≡ 53 = eqb-true _ _ h.0 in
        let p = h.1 in
        let s : vote_in (drop 2 bytes) ≡ x = cc in
        let d = length-drop 37 (drop 2 bytes) in
        ap (λ (y : Vote). length y.seal) (sym s) ∙ omega (arith, d, f)

-- the seals of a certificate's bytes
seals_fit : (n s : ℕ) (ps : List ℕ) → s < 2 ^ n → s < 65536 → length ps ≡ 16 * ones s → Fit n (record { set = s; seals = seals_in s ps })
unfolding seals_in
seals_fit n s ps below small len = record {
  below = below;
  sixteen = refl;
  seals = λ i l. ap (λ (x : List ℕ). length x) (at i l) ∙
      cond_both (signed s i) (field (16 * before s i) 16 ps) no_seal (λ (x : List ℕ). length x ≡ 16)
      (λ h. let b = before_signer s i small l h in
      let d = length-drop (16 * before s i) ps in
      let t = length-take 16 (drop (16 * before s i) ps) in
      omega (arith, b, d, t, len))
      (λ _. refl);
  absent = λ i l h. at i l ∙ cond_both (signed s i) (field (16 * before s i) 16 ps) no_seal (λ (x : List ℕ). x ≡ no_seal)
      (λ y. absurd (both_ways _ h y)) (λ _. refl);
}
  where
    at : (i : ℕ) → i < 16 → get_or (map (seal_in s ps) (range_with_len 0 16)) i [] ≡ seal_in s ps i
    at i l = get_or-map-range_with_len (seal_in s ps) 0 16 i i [] l (omega arith)

pub certificate_fits : (n : ℕ) (bytes : List ℕ) (p : Proposal) → Octets bytes → read n bytes ≡ Ok (message.Proposal p)
    → p.certificate.signers.set < 2 ^ n → Fit n p.certificate.signers
unfolding proposal_in proposal_fits certificate_in
certificate_fits n bytes p octets e below = at (read_parts n bytes (message.Proposal p) e)
  where
    at : ((proposal_fits (drop 2 bytes) ≡ true) × (message.Proposal (proposal_in (drop 2 bytes)) ≡ message.Proposal p))
        ⊎ ((vote_fits (drop 2 bytes) ≡ true) × (message.Vote (vote_in (drop 2 bytes)) ≡ message.Proposal p)) → Fit n p.certificate.signers
    at (inr h) = absurd (let q = h.1 in let z : ◌≡◌ {A = ℕ} 0 1 = cc in omega arith)
    at (inl h) =
        let q = h.1 in
        let same : proposal_in (drop 2 bytes) ≡ p = cc in
        let pb : List ℕ = past_body (drop 2 bytes) in
        let a = and_parts (leb 43 (length (drop 2 bytes)))
        (leb (number 42 1 (drop 2 bytes)) 8 && (leb 40 (length pb) && eqb (length pb) (certificate_length pb + 16))) h.0 in
        let b = and_parts (leb (number 42 1 (drop 2 bytes)) 8) (leb 40 (length pb) && eqb (length pb) (certificate_length pb + 16)) a.1 in
        let d = and_parts (leb 40 (length pb)) (eqb (length pb) (certificate_length pb + 16)) b.1 in
        let whole : length pb ≡ certificate_length pb + 16 = eqb-true _ _ d.1 in
        let cp : List ℕ = certificate_part (drop 2 bytes) in
        let len : length cp ≡ certificate_length pb = length-take (certificate_length pb) pb ∙ omega (arith, whole) in
        let s : ℕ = number 38 2 cp in
        let same_set : number 38 2 cp ≡ number 38 2 pb = ap num (field-take 38 2 (certificate_length pb) pb (omega arith)) in
        let o : Octets cp = All-take (λ (k : ℕ). k < 256) (certificate_length pb) pb
        (All-drop (λ (k : ℕ). k < 256) (body_length (drop 2 bytes)) (drop 2 bytes) (All-drop (λ (k : ℕ). k < 256) 2 bytes octets)) in
        let small = set_below 38 cp o (omega (arith, len)) in
        let rest : length (drop 40 cp) ≡ 16 * ones (number 38 2 cp) =
        length-drop 40 cp ∙ (let c : length cp ≡ 40 + 16 * ones (number 38 2 cp) = len ∙ ap (λ (x : ℕ). 40 + 16 * ones x) (sym same_set) in omega (arith, c)) in
        let low : number 38 2 cp < 2 ^ n = subst (λ (x : Proposal). x.certificate.signers.set < 2 ^ n) (sym same) below in
        subst (λ (x : Proposal). Fit n x.certificate.signers) same (seals_fit n (number 38 2 cp) (drop 40 cp) low small rest)
