-- What a message that could be read, and orders that could be packed, are known to be.
use Rattle.std.proofs.Common.{◌≡◌, ℕ, ◌<◌, Bool, true, false, cond, ◌&&◌, ltb, leb, List, drop, Some, None, Ok, Err, codes, Result, sym, refl, ap, ◌∙◌, arith}
use Rattle.std.proofs.lemmas.Bool.{cond_both, and_parts, ltb-true}
use Rattle.wire.specs.Read.{inner_marks, judged, marked, proposal_fits, proposal_in, proposal_stands, read, read_proposal, read_vote, vote_fits, vote_stands, vote_in}
use Rattle.wire.specs.declared.message.Message.{Message}
use Rattle.wire.specs.declared.message.Message.TheVariants as message
use Rattle.wire.specs.declared.message.Proposal.{Proposal}
use Rattle.wire.specs.declared.message.Vote.{Vote}
use Rattle.wire.specs.declared.orders.Orders.{Orders}
use Rattle.wire.specs.declared.unreadable.Unreadable.{Unreadable}
use Rattle.wire.specs.declared.unreadable.Unreadable.TheVariants.{Mark}

never : {A : Type 0} → ◌≡◌ {A = ℕ} 0 1 → A
never z = absurd (omega arith)

judged_ok : (f g : Bool) (m k : Message) → judged f g m ≡ Ok k → (g ≡ true) × (m ≡ k)
judged_ok true true m k e = (refl, cc)
judged_ok true false m k e = never (cc)
judged_ok false g m k e = never (cc)

below : (n : ℕ) (x v : Vote) → vote_stands n x ≡ true → x ≡ v → v.voter < n
below n x v e f =
    let p = and_parts (leb 1 x.block.view) (ltb x.voter n) e in
    let w = ap (λ (y : Vote). y.voter) f in
    omega (arith, ltb-true _ _ p.1)

same_vote : (x v : Vote) → message.Vote x ≡ message.Vote v → x ≡ v
same_vote x v e = cc

no_vote : {A : Type 0} (f g : Bool) (p : Proposal) (v : Vote) → judged f g (message.Proposal p) ≡ Ok (message.Vote v) → A
no_vote true true p v e = never (cc)
no_vote true false p v e = never (cc)
no_vote false g p v e = never (cc)

pub read_as : (n : ℕ) (bytes : List ℕ) (m k : Message) → Ok m ≡ read n bytes → k ≡ m → read n bytes ≡ Ok k
read_as n bytes m k e f = sym e ∙ ap (λ (x : Message). Ok x) (sym f)

-- a vote that was read is a console's
pub voter_below : (n : ℕ) (bytes : List ℕ) (v : Vote) → read n bytes ≡ Ok (message.Vote v) → v.voter < n
unfolding read read_proposal read_vote
voter_below n bytes v =
    cond_both (marked (codes "PR") bytes) (read_proposal n (drop 2 bytes)) (cond (marked (codes "VT") bytes) (read_vote n (drop 2 bytes)) (Err Mark))
    (λ (r : Result Message Unreadable). r ≡ Ok (message.Vote v) → v.voter < n)
    (λ _ e. no_vote (proposal_fits (drop 2 bytes)) (inner_marks (drop 2 bytes) && proposal_stands n (proposal_in (drop 2 bytes))) (proposal_in (drop 2 bytes)) v e)
    (λ _.
    cond_both (marked (codes "VT") bytes) (read_vote n (drop 2 bytes)) (Err Mark)
    (λ (r : Result Message Unreadable). r ≡ Ok (message.Vote v) → v.voter < n)
    (λ _ e. let p = judged_ok (vote_fits (drop 2 bytes)) (vote_stands n (vote_in (drop 2 bytes))) (message.Vote (vote_in (drop 2 bytes))) (message.Vote v) e in below n (vote_in (drop 2 bytes)) v p.0 (same_vote _ _ p.1))
    (λ _ e. never (cc)))

pub packed_some : (b : Bool) (x y : Orders) → Some y ≡ cond b (Some x) None → (b ≡ true) × (y ≡ x)
packed_some true x y e = (refl, cc)
packed_some false x y e = never (cc)

pub packed_none : (b : Bool) (x : Orders) → None ≡ cond b (Some x) None → b ≡ false
packed_none true x e = never (cc)
packed_none false x e = refl
