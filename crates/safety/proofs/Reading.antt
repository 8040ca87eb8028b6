-- What is known of a message because it could be read.
use Rattle.std.proofs.Common.{◌≡◌, ℕ, ◌^◌, ◌<◌, ◌≤◌, Bool, true, false, cond, not, ◌&&◌, ◌||◌, eqb, ltb, leb, ◌⊎◌, List, drop, Ok, Err, codes, sym, refl, ap, subst, inl, inr, ⊎_elim, arith}
use Rattle.std.proofs.lemmas.Bool.{and_parts, or_cases, both_ways, ltb-true, leb-true}
use Rattle.std.proofs.lemmas.Bool.Decides.{nat_tests}
use Rattle.wire.specs.Format.{origin, orders_of, same_key}
use Rattle.wire.specs.Read.{marked, certificate_stands, inner_marks, body_stands, proposal_stands, proposal_in, proposal_fits, vote_in, vote_fits, vote_stands, judged, read, read_proposal as proposal_read, read_vote as vote_read, all_well_formed}
use Rattle.wire.specs.declared.certificate.Certificate.{Certificate}
use Rattle.wire.specs.declared.message.Message.{Message}
use Rattle.wire.specs.declared.message.Message.TheVariants as message
use Rattle.wire.specs.declared.message.Proposal.{Proposal}
use Rattle.wire.specs.declared.message.Vote.{Vote}
use Rattle.wire.specs.declared.unreadable.Unreadable.TheVariants.{Mark}
use Rattle.rules.specs.Shelves.{key_same}

judged_ok : (fits formed : Bool) (m k : Message) → judged fits formed m ≡ Ok k → (formed ≡ true) × (m ≡ k)
judged_ok true true m k e = (refl, cc)
judged_ok true false m k e = absurd (let z : ◌≡◌ {A = ℕ} 0 1 = cc in omega arith)
judged_ok false formed m k e = absurd (let z : ◌≡◌ {A = ℕ} 0 1 = cc in omega arith)

-- the two kinds are apart
other_kind : (p : Proposal) (v : Vote) → ◌≡◌ {A = Message} (message.Vote v) (message.Proposal p) → ⊥
other_kind p v e = let z : ◌≡◌ {A = ℕ} 0 1 = cc in omega arith

one_kind : (a b f g h k : Bool) (p : Proposal) (v : Vote) (o : Message)
    → cond a (judged f g (message.Proposal p)) (cond b (judged h k (message.Vote v)) (Err Mark)) ≡ Ok o
    → ((g ≡ true) × (message.Proposal p ≡ o)) ⊎ ((k ≡ true) × (message.Vote v ≡ o))
one_kind true b f g h k p v o e = inl (judged_ok f g (message.Proposal p) o e)
one_kind false true f g h k p v o e = inr (judged_ok h k (message.Vote v) o e)
one_kind false false f g h k p v o e = absurd (let z : ◌≡◌ {A = ℕ} 0 1 = cc in omega arith)

-- ---- proposals

pub record ReadProposal (n : ℕ) (p : Proposal) : Type 0 where
  pub above : p.body.parent.view < p.body.view
  pub names_parent : p.certificate.block ≡ p.body.parent
  pub signers_below : p.certificate.signers.set < 2 ^ n
  -- a block of view 0 is the origin
  pub on_origin : p.certificate.block.view ≡ 0 → p.certificate.block ≡ origin

certificate_facts : (n : ℕ) (c : Certificate) → certificate_stands n c ≡ true
    → (c.signers.set < 2 ^ n) × (c.block.view ≡ 0 → c.block ≡ origin)
certificate_facts n c e = (ltb-true _ _ p.0, at)
  where
    p : (ltb c.signers.set (2 ^ n) ≡ true) × ((not (eqb c.block.view 0) || (same_key c.block origin && eqb c.signers.set 0)) ≡ true)
    p = and_parts _ _ e

    at : c.block.view ≡ 0 → c.block ≡ origin
    at z = ⊎_elim
        (λ t. absurd (let b : eqb c.block.view 0 ≡ true = grind (arith, nat_tests) in both_ways _ (ap not b) t))
        (λ t. key_same _ _ (and_parts (same_key c.block origin) (eqb c.signers.set 0) t).0)
        (or_cases (not (eqb c.block.view 0)) _ p.1)

proposal_facts : (n : ℕ) (p : Proposal) → proposal_stands n p ≡ true → ReadProposal n p
unfolding proposal_stands
proposal_facts n p e =
    let a = and_parts (body_stands p.body) _ e in
    let views = and_parts (all_well_formed (orders_of p.body.orders)) (ltb p.body.parent.view p.body.view) a.0 in
    let c = and_parts (certificate_stands n p.certificate) (same_key p.certificate.block p.body.parent) a.1 in
    let f = certificate_facts n p.certificate c.0 in
    record {
      above = ltb-true _ _ views.1;
      names_parent = key_same _ _ c.1;
      signers_below = f.0;
      on_origin = f.1;
    }

chosen : (n : ℕ) (bytes : List ℕ) (m : Message) → read n bytes ≡ Ok m
    → (((inner_marks (drop 2 bytes) && proposal_stands n (proposal_in (drop 2 bytes))) ≡ true) × (message.Proposal (proposal_in (drop 2 bytes)) ≡ m))
    ⊎ ((vote_stands n (vote_in (drop 2 bytes)) ≡ true) × (message.Vote (vote_in (drop 2 bytes)) ≡ m))
unfolding read proposal_read vote_read
chosen n bytes m e =
    one_kind (marked (codes "PR") bytes) (marked (codes "VT") bytes) (proposal_fits (drop 2 bytes))
    (inner_marks (drop 2 bytes) && proposal_stands n (proposal_in (drop 2 bytes)))
    (vote_fits (drop 2 bytes)) (vote_stands n (vote_in (drop 2 bytes))) (proposal_in (drop 2 bytes)) (vote_in (drop 2 bytes)) m e

pub read_proposal : (n : ℕ) (bytes : List ℕ) (p : Proposal) → read n bytes ≡ Ok (message.Proposal p) → ReadProposal n p
read_proposal n bytes p e =
    ⊎_elim
    (λ h.
    let s : proposal_in (drop 2 bytes) ≡ p = cc in
    subst (ReadProposal n) s (proposal_facts n _ (and_parts (inner_marks (drop 2 bytes)) _ h.0).1))
    (λ h. absurd (other_kind p (vote_in (drop 2 bytes)) h.1))
    (chosen n bytes (message.Proposal p) e)

-- ---- votes

pub record ReadVote (n : ℕ) (v : Vote) : Type 0 where
  pub voter_below : v.voter < n
  pub above_origin : 1 ≤ v.block.view

vote_facts : (n : ℕ) (v : Vote) → vote_stands n v ≡ true → ReadVote n v
vote_facts n v e =
    let a = and_parts (leb 1 v.block.view) (ltb v.voter n) e in
    record { voter_below = ltb-true _ _ a.1; above_origin = leb-true _ _ a.0 }

pub read_vote : (n : ℕ) (bytes : List ℕ) (v : Vote) → read n bytes ≡ Ok (message.Vote v) → ReadVote n v
read_vote n bytes v e =
    ⊎_elim
    (λ h. absurd (other_kind (proposal_in (drop 2 bytes)) v (sym h.1)))
    (λ h.
    let s : vote_in (drop 2 bytes) ≡ v = cc in
    subst (ReadVote n) s (vote_facts n (vote_in (drop 2 bytes)) h.0))
    (chosen n bytes (message.Vote v) e)
