-- Messages and their bytes determine one another.
use Rattle.std.proofs.Common.{◌≡◌, ℕ, ◌+◌, ◌-◌, ◌*◌, ◌<◌, ◌≤◌, Bool, true, false, ◌&&◌, eqb, List, ◌++◌, length, get_or, take, drop, Ok, codes, Result, sym, refl, ap, ◌∙◌, arith, eqb-true}
use lib.Count.{ones, ones-le}
use Rattle.std.proofs.ByRecursion.{All-take, All-drop}
use Rattle.std.proofs.lemmas.List.{take-append-drop, take-append-le, drop-append-le, take_all, take_at, drop_at, drop-drop, length-append, length-drop}
use Rattle.std.proofs.lemmas.Bool.{cond_both, and_parts}
use Rattle.std.proofs.lemmas.Bool.Decides.{nat_tests}
use Rattle.wire.specs.Bytes.{be, num, field, number, Octets}
use Rattle.wire.specs.Canon.{BodyFits, CertificateFits, ProposalFits, VoteFits, WellFormed, KeyFits}
use Rattle.wire.specs.Format.{key_bytes, body_bytes, certificate_bytes, proposal_bytes, vote_bytes, message_bytes, purpose_mark, statement_bytes, orders_of}
use Rattle.wire.specs.Parts.{Lengths}
use Rattle.wire.specs.Read.{marked, key_at, body_in, certificate_in, proposal_in, vote_in, body_length, certificate_length, body_part, past_body, certificate_part, seal_part, proposal_fits, all_well_formed, body_stands, proposal_stands, vote_stands, inner_marks, judged, read_proposal, read_vote, read}
use Rattle.wire.specs.declared.body.Body.{Body}
use Rattle.wire.specs.declared.certificate.Certificate.{Certificate}
use Rattle.wire.specs.declared.key.Key.{Key}
use Rattle.wire.specs.declared.message.Message.{Message}
use Rattle.wire.specs.declared.message.Message.TheVariants as message
use Rattle.wire.specs.declared.message.Proposal.{Proposal}
use Rattle.wire.specs.declared.message.Vote.{Vote}
use Rattle.wire.specs.declared.statement.Purpose.{Purpose}
use Rattle.wire.specs.declared.statement.Purpose.TheVariants.{Propose, Vote as VoteFor}
use Rattle.wire.specs.declared.statement.Statement.{Statement}
use Rattle.wire.specs.declared.unreadable.Unreadable.{Unreadable}
use Rattle.wire.proofs.Bodies.{body_forth, body_back, cut, be_field, key_back, mark_is}
use Rattle.wire.proofs.Numbers.{num_be}
use Rattle.wire.proofs.Proposals.{fit, read-stands, vote_read, body_whole, certificate_whole}
use Rattle.wire.proofs.Sequences.{length-orders_in}
use Rattle.wire.proofs.Signing.{before-all, packed_size}
use Rattle.wire.proofs.Sizes.{length-proposal, length_body, length-certificate, length-key}
use Rattle.wire_laws.proofs.Certificates.{certificate_forth, certificate_back, set_below}

-- a field of the front part
field_front : (at len : ℕ) (a b : List ℕ) → at + len ≤ length a → field at len (a ++ b) ≡ field at len a
field_front at len a b h =
    let d : len ≤ length (drop at a) = simp length-drop (omega arith) in
    ap (take len) (drop-append-le at a b (omega arith)) ∙ take-append-le len (drop at a) b d

count_written : (b : Body) → BodyFits b → number 42 1 (body_bytes b) ≡ length (orders_of b.orders)
unfolding body_in
count_written b h =
    sym (length-orders_in (number 42 1 (body_bytes b)) (drop 43 (body_bytes b))) ∙
    (ap (λ (x : Body). x.orders.count) (body_forth b h) ∙ ap (λ o. o.count) h.packed)

body_size : (b : Body) → BodyFits b → length (body_bytes b) ≡ 43 + 8 * length (orders_of b.orders)
body_size b h = length_body b (length-key b.parent h.parent.name)

set_written : (c : Certificate) → CertificateFits c → number 38 2 (certificate_bytes c) ≡ c.signers.set
unfolding certificate_in
set_written c h = ap (λ (x : Certificate). x.signers.set) (certificate_forth c h)

certificate_size : (c : Certificate) → CertificateFits c → length (certificate_bytes c) ≡ 40 + 16 * ones c.signers.set
certificate_size c h =
    let k = length-key c.block h.block.name in
    let p = packed_size c.signers.set c.signers.seals (λ i l. h.seals i (omega (arith, h.sixteen))) 16 (omega (arith, h.sixteen)) in
    let a = before-all c.signers.set h.set in
    let l = length-certificate c in
    omega arith

marks_written : (b : Body) (c : Certificate) → (marked (codes "BD") (body_bytes b) && marked (codes "CT") (certificate_bytes c)) ≡ true
unfolding body_bytes certificate_bytes
marks_written b c = refl

module _ (n : ℕ) (p : Proposal) (h : ProposalFits p) (s : proposal_stands n p ≡ true) where
  proposal_forth : read n (message_bytes (message.Proposal p)) ≡ Ok (message.Proposal p)
  unfolding read message_bytes proposal_bytes
  proposal_forth =
      let x : List ℕ = body_bytes p.body in
      let y : List ℕ = certificate_bytes p.certificate in
      let z : List ℕ = y ++ p.seal in
      let k : ℕ = length (orders_of p.body.orders) in
      let o : ℕ = ones p.certificate.signers.set in
      let xl : length x ≡ 43 + 8 * k = body_size p.body h.body in
      let yl : length y ≡ 40 + 16 * o = certificate_size p.certificate h.certificate in
      let zl : length z ≡ length y + length p.seal = length-append y p.seal in
      let all : length (x ++ z) ≡ length x + length z = length-append x z in
      let seal = h.seal in
      let few = h.body.few in
      let most = ones-le 16 p.certificate.signers.set h.certificate.set in
      let is : k ≡ number 42 1 (x ++ z) = sym (ap num (field_front 42 1 x z (omega arith)) ∙ count_written p.body h.body) in
      let past : drop (43 + 8 * k) (x ++ z) ≡ z = drop_at x z (43 + 8 * k) xl in
      let rest : take (length (x ++ z) - (43 + 8 * k)) (drop (43 + 8 * k) (x ++ z)) ≡ z =
      ap (take (length (x ++ z) - (43 + 8 * k))) past ∙ take_all _ z (omega arith) in
      let set : p.certificate.signers.set ≡ number 38 2 (take (length (x ++ z) - (43 + 8 * k)) (drop (43 + 8 * k) (x ++ z))) =
      sym (ap (number 38 2) rest ∙ (ap num (field_front 38 2 y p.seal (omega arith)) ∙ set_written p.certificate h.certificate)) in
      let lengths = fit (x ++ z) k is few (omega arith) p.certificate.signers.set o set refl most (ap length rest ∙ omega arith) in
      sym (read-stands (x ++ z) (43 + 8 * k) (40 + 16 * o) lengths x y p.seal
      (sym (take_at x z (43 + 8 * k) xl))
      (sym (ap (take (40 + 16 * o)) past ∙ take_at y p.seal (40 + 16 * o) yl))
      (sym (ap (drop (40 + 16 * o)) past ∙ drop_at y p.seal (40 + 16 * o) yl))
      n p (sym (body_forth p.body h.body)) (sym (certificate_forth p.certificate h.certificate)) refl (marks_written p.body p.certificate) s)

module _ (n : ℕ) (v : Vote) (h : VoteFits v) (s : vote_stands n v ≡ true) where
  vote_forth : read n (message_bytes (message.Vote v)) ≡ Ok (message.Vote v)
  unfolding read message_bytes vote_bytes be num
  vote_forth =
      let x : List ℕ = be 1 v.voter ++ v.seal in
      let bs : List ℕ = key_bytes v.block ++ x in
      let kl = length-key v.block h.block.name in
      let all = length-append (key_bytes v.block) x in
      let seal = h.seal in
      let name = take_at v.block.name x 32 h.block.name in
      let past : drop 32 (v.block.name ++ x) ≡ x = drop_at v.block.name x 32 h.block.name in
      let block : v.block ≡ key_at 0 bs = λ i. record { view = sym (num_be 4 v.block.view h.block.view) i; name = sym name i } in
      let voter : v.voter ≡ number 36 1 bs = sym (ap (λ (l : List ℕ). num (take 1 l)) past ∙ num_be 1 v.voter h.voter) in
      let last : v.seal ≡ drop 37 bs = sym (sym (drop-drop 1 32 (v.block.name ++ x)) ∙ ap (drop 1) past) in
      sym (vote_read n bs (omega arith) v block voter last s)

pub message_forth : (n : ℕ) (m : Message) → WellFormed n m → read n (message_bytes m) ≡ Ok m
message_forth n (message.Proposal p) h = proposal_forth n p h.0 h.1
message_forth n (message.Vote v) h = vote_forth n v h.0 h.1

-- Bytes first.

lengths_of : (bs : List ℕ) → Octets bs → proposal_fits bs ≡ true → Lengths bs (Ok (record { body = body_length bs; certificate = certificate_length (past_body bs) }))
unfolding proposal_fits
lengths_of bs o f =
    let d = length-drop (body_length bs) bs in
    let few : number 42 1 bs ≤ 8 = grind (arith, nat_tests) in
    let long : 40 ≤ length (past_body bs) = grind (arith, nat_tests) in
    let whole : length (past_body bs) ≡ certificate_length (past_body bs) + 16 = grind (arith, nat_tests) in
    let most = ones-le 16 (number 38 2 (past_body bs)) (set_below 38 (past_body bs) (All-drop (λ (k : ℕ). k < 256) (body_length bs) bs o) (omega arith)) in
    (f, refl, refl, few, omega arith, whole, omega arith)

proposal_back : (n : ℕ) (bs : List ℕ) → Octets bs → proposal_fits bs ≡ true → inner_marks bs ≡ true → proposal_stands n (proposal_in bs) ≡ true → proposal_bytes (proposal_in bs) ≡ codes "PR" ++ bs
unfolding proposal_bytes proposal_in proposal_stands
proposal_back n bs o f m s =
    let l = lengths_of bs o f in
    let marks = and_parts (marked (codes "BD") (body_part bs)) (marked (codes "CT") (certificate_part bs)) m in
    let b = body_in (body_part bs) in
    let stands = and_parts (body_stands (body_in (body_part bs))) _ s in
    let formed = and_parts (all_well_formed (orders_of (body_in (body_part bs)).orders)) _ stands.0 in
    let past : Octets (past_body bs) = All-drop (λ (k : ℕ). k < 256) (body_length bs) bs o in
    let x = body_back (body_part bs) (body_whole bs _ _ l _ _ _ refl refl refl) (All-take (λ (k : ℕ). k < 256) (body_length bs) bs o) marks.0 formed.0 in
    let y = certificate_back (certificate_part bs) (certificate_whole bs _ _ l _ _ _ refl refl refl) (All-take (λ (k : ℕ). k < 256) (certificate_length (past_body bs)) (past_body bs) past) marks.1 in
    (λ i. codes "PR" ++ (x i ++ (y i ++ seal_part bs))) ∙
    ap (λ (r : List ℕ). codes "PR" ++ r)
    (ap (λ (r : List ℕ). body_part bs ++ r) (take-append-drop (certificate_length (past_body bs)) (past_body bs)) ∙ take-append-drop (body_length bs) bs)

vote_back : (bs : List ℕ) → Octets bs → length bs ≡ 53 → vote_bytes (vote_in bs) ≡ codes "VT" ++ bs
unfolding vote_bytes vote_in
vote_back bs o h =
    let voter = be_field 36 1 bs o (omega arith) in
    let key = key_back 0 bs o (omega arith) in
    (λ i. codes "VT" ++ (key_bytes (key_at 0 bs) ++ (voter i ++ drop 37 bs))) ∙
    ap (λ (r : List ℕ). codes "VT" ++ r) (ap (λ (r : List ℕ). key_bytes (key_at 0 bs) ++ r) (sym (cut 36 1 bs)) ∙ key)

-- what was judged well
judged_ok : (fits formed : Bool) (m m' : Message) → judged fits formed m ≡ Ok m' → (fits ≡ true) × (formed ≡ true) × (m ≡ m')
judged_ok true true m m' e = (refl, refl, cc)
judged_ok true false m m' e = let z : ◌≡◌ {A = ℕ} 0 1 = cc in absurd (omega arith)
judged_ok false formed m m' e = let z : ◌≡◌ {A = ℕ} 0 1 = cc in absurd (omega arith)

opened : (mark bs : List ℕ) → marked mark bs ≡ true → mark ++ drop 2 bs ≡ bs
opened mark bs m = ap (λ (l : List ℕ). l ++ drop 2 bs) (mark_is mark bs m) ∙ take-append-drop 2 bs

pub message_back : (n : ℕ) (bs : List ℕ) (m : Message) → Octets bs → read n bs ≡ Ok m → message_bytes m ≡ bs
unfolding read read_proposal read_vote message_bytes
message_back n bs m o =
    let r : List ℕ = drop 2 bs in
    let octets : Octets (drop 2 bs) = All-drop (λ (k : ℕ). k < 256) 2 bs o in
    let P : Result Message Unreadable → Type 0 = λ x. x ≡ Ok m → message_bytes m ≡ bs in
    cond_both (marked (codes "PR") bs) _ _ P
    (λ a e.
    let j = judged_ok (proposal_fits (drop 2 bs)) (inner_marks (drop 2 bs) && proposal_stands n (proposal_in (drop 2 bs))) (message.Proposal (proposal_in (drop 2 bs))) m e in
    let k = and_parts (inner_marks (drop 2 bs)) (proposal_stands n (proposal_in (drop 2 bs))) j.1 in
    sym (ap message_bytes j.2) ∙ (proposal_back n (drop 2 bs) octets j.0 k.0 k.1 ∙ opened (codes "PR") bs a))
    (λ _. cond_both (marked (codes "VT") bs) _ _ P
    (λ a e.
    let j = judged_ok (eqb (length (drop 2 bs)) 53) (vote_stands n (vote_in (drop 2 bs))) (message.Vote (vote_in (drop 2 bs))) m e in
    sym (ap message_bytes j.2) ∙ (vote_back (drop 2 bs) octets (eqb-true _ _ j.0) ∙ opened (codes "VT") bs a))
    (λ _ e. let z : ◌≡◌ {A = ℕ} 0 1 = cc in absurd (omega arith)))

-- Bytes that are equal.

pub body_by_bytes : (a b : Body) → BodyFits a → BodyFits b → body_bytes a ≡ body_bytes b → a ≡ b
body_by_bytes a b h k e = sym (body_forth a h) ∙ (ap body_in e ∙ body_forth b k)

-- the marks of the two purposes differ
purpose_by_mark : (p q : Purpose) → purpose_mark p ≡ purpose_mark q → p ≡ q
purpose_by_mark Propose Propose e = refl
purpose_by_mark Propose VoteFor e = let z : ◌≡◌ {A = ℕ} 80 86 = ap (λ (l : List ℕ). get_or l 0 0) e in absurd (omega arith)
purpose_by_mark VoteFor Propose e = let z : ◌≡◌ {A = ℕ} 86 80 = ap (λ (l : List ℕ). get_or l 0 0) e in absurd (omega arith)
purpose_by_mark VoteFor VoteFor e = refl

mark_size : (p : Purpose) → length (purpose_mark p) ≡ 2
mark_size Propose = refl
mark_size VoteFor = refl

key_forth : (k : Key) → KeyFits k → key_at 0 (key_bytes k) ≡ k
unfolding be num
key_forth k h = λ i. record { view = num_be 4 k.view h.view i; name = take_all 32 k.name (omega (arith, h.name)) i }

pub statement_by_bytes : (a b : Statement) → KeyFits a.block → KeyFits b.block → statement_bytes a ≡ statement_bytes b → a ≡ b
unfolding statement_bytes
statement_by_bytes a b h k e =
    let front = sym (take_at (purpose_mark a.purpose) (key_bytes a.block) 2 (mark_size a.purpose)) ∙
    (ap (take 2) e ∙ take_at (purpose_mark b.purpose) (key_bytes b.block) 2 (mark_size b.purpose)) in
    let rest = sym (drop_at (purpose_mark a.purpose) (key_bytes a.block) 2 (mark_size a.purpose)) ∙
    (ap (drop 2) e ∙ drop_at (purpose_mark b.purpose) (key_bytes b.block) 2 (mark_size b.purpose)) in
    let purpose = purpose_by_mark a.purpose b.purpose front in
    let block = sym (key_forth a.block h) ∙ (ap (key_at 0) rest ∙ key_forth b.block k) in
    λ i. record { purpose = purpose i; block = block i }

pub proposal_165 : (p : Proposal) → ProposalFits p → length (orders_of p.body.orders) ≡ 2 → ones p.certificate.signers.set ≡ 3 → length (proposal_bytes p) ≡ 165
proposal_165 p h two three =
    let b = body_size p.body h.body in
    let c = certificate_size p.certificate h.certificate in
    let s = h.seal in
    let l = length-proposal p in
    omega arith
