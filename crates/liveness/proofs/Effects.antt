-- What a console holds after it proposed, heard or voted.
use Rattle.std.proofs.Common.{◌≡◌, ℕ, ◌%◌, ◌<◌, ◌≤◌, Bool, true, false, cond, not, ltb, leb, List, Some, None, Ok, Err, Option, sym, refl, ap, ◌∙◌, subst, ⊎_elim, arith}
use Rattle.std.proofs.lemmas.Bool.{cond_both, cond-false, or_cases, both_ways, eqb-true}
use Rattle.std.proofs.lemmas.Bool.Decides.{nat_tests}
use Rattle.votes.specs.Quorum.{Holds}
use Rattle.votes.proofs.Sets.{entered_holds}
use Rattle.wire.specs.Format.{body_key, body_name, signed}
use Rattle.wire.specs.Read.{read}
use Rattle.wire.specs.declared.body.Body.{Body}
use Rattle.wire.specs.declared.certificate.Signers.{Signers}
use Rattle.wire.specs.declared.key.Key.{Key}
use Rattle.wire.specs.declared.message.Message.{Message}
use Rattle.wire.specs.declared.message.Message.TheVariants as message
use Rattle.wire.specs.declared.message.Proposal.{Proposal}
use Rattle.wire.specs.declared.message.Vote.{Vote}
use Rattle.wire.specs.declared.order.Order.{Order}
use Rattle.wire.specs.declared.unreadable.Unreadable.{Unreadable}
use Rattle.rules.specs.declared.block.Block.{Block}
use Rattle.rules.specs.declared.refusal.Refusal.{Refusal}
use Rattle.rules.specs.declared.refusal.Refusal.TheVariants.{ViewAhead, NotAboveHead, LeaderSeal, BadCertificate, ShelfFull}
use Rattle.rules.specs.Blocks.{block_key, held, is_held, has_room}
use Rattle.rules.specs.Hear.{hear, proposes, votes_for, certificate_stands, proposal_ground, take_up, hear_proposal, count_vote, hear_vote}
use Rattle.rules.specs.Pit.{leader, view_of}
use Rattle.rules.specs.Propose.{propose, propose_body, body_on_top, fits_shelf}
use Rattle.rules.specs.Settle.{settle, fresh, placed, with_top, with_tally, joined, enter}
use Rattle.rules.specs.State.{State, Ledger, Table, shelf_fits}
use Rattle.rules.specs.Step.{refused, vote, Owed, Outcome}
use Rattle.rules.specs.Tick.{tick, clocked, candidate_block, may_vote, vote_for}
use Rattle.rules.specs.Shelves.{is_held_on}
use Rattle.rules.specs.Options.{absent, same_some}
use Rattle.rules.proofs.Ways as ways
use Rattle.safety.proofs.Grounds.{ProposeStands, proposal_stands}
use Rattle.liveness.proofs.Lookup.{unheld, held_put_new, held_replaced, enter_held, entered}
use Rattle.liveness.proofs.Settling.{settled_held}
use Rattle.liveness.proofs.Ways.{propose_ways, taken_up, take_up_ways}

-- a block is held under the key
abbrev pub Holding : Key → Ledger → Type 0
Holding k g = (b : Block) × (held k g.shelf ≡ Some b)

-- with this console among its voters
abbrev pub Counting : Key → ℕ → Ledger → Type 0
Counting k j g = (b : Block) × (held k g.shelf ≡ Some b) × Holds b.tally.set j

-- ---- a block comes onto the shelf

room_left : (s : State) (k : Key) → fits_shelf s k ≡ true → is_held k s.ledger.shelf ≡ false → has_room s.ledger.shelf ≡ true
room_left s k f n = ⊎_elim (λ e. absurd (both_ways _ n e)) (λ e. e) (or_cases (is_held k s.ledger.shelf) (has_room s.ledger.shelf) f)

-- settling keeps what is above its head
kept_holding : (n : ℕ) (k : Key) (g : Ledger) → Holding k g → (settle n g).ledger.head.view < k.view → Holding k (settle n g).ledger
kept_holding n k g h l = (h.0, settled_held n g k h.0 h.1 l)

pub proposed_holds : (s : State) (body : Body) (seal : List ℕ) → fits_shelf s (body_key body) ≡ true
    → (propose_body body seal s).state.ledger.head.view < body.view → Holding (body_key body) (propose_body body seal s).state.ledger
unfolding propose_body
proposed_holds s body seal room =
    cond_both (is_held (body_key body) s.ledger.shelf) s.ledger (placed (fresh body (body_name body)) s.ledger)
    (λ (g : Ledger). (settle s.seat.n g).ledger.head.view < body.view → Holding (body_key body) (settle s.seat.n g).ledger)
    (λ e. kept_holding s.seat.n (body_key body) s.ledger (is_held_on (body_key body) s.ledger.shelf e))
    (λ e. kept_holding s.seat.n (body_key body) (placed (fresh body (body_name body)) s.ledger)
    (fresh body (body_name body), held_put_new (fresh body (body_name body)) s.ledger.shelf (unheld _ _ e) (room_left s (body_key body) room e)))

-- a good proposal is refused only for want of room
only_full : (table : Table) (s : State) (p : Proposal) (r : Refusal) → p.body.view ≤ s.view → s.ledger.head.view < p.body.view
    → table (leader s.seat.n p.body.view) (proposes (body_key p.body)) p.seal ≡ true
    → certificate_stands table s.seat.n p.certificate ≡ true → proposal_ground table s p ≡ Some r → r ≡ ShelfFull
unfolding proposal_ground
only_full table s p r a b c d e =
    let k = body_key p.body in
    let leads = table (leader s.seat.n p.body.view) (proposes k) p.seal in
    let stands = certificate_stands table s.seat.n p.certificate in
    let last : Option Refusal = cond (not (fits_shelf s k)) (Some ShelfFull) None in
    let fourth : Option Refusal = cond (not stands) (Some BadCertificate) last in
    let third : Option Refusal = cond (not leads) (Some LeaderSeal) fourth in
    let second : Option Refusal = cond (leb p.body.view s.ledger.head.view) (Some NotAboveHead) third in
    let x1 : ltb s.view p.body.view ≡ false = grind (arith, nat_tests) in
    let x2 : leb p.body.view s.ledger.head.view ≡ false = grind (arith, nat_tests) in
    let f = cond-false (ltb s.view p.body.view) (Some ViewAhead) second x1
    ∙ cond-false (leb p.body.view s.ledger.head.view) (Some NotAboveHead) third x2
    ∙ cond-false (not leads) (Some LeaderSeal) fourth (ap not c) ∙ cond-false (not stands) (Some BadCertificate) last (ap not d) in
    full (fits_shelf s k) (sym f ∙ e)
  where
    full : (t : Bool) → cond (not t) (Some ShelfFull) None ≡ Some r → r ≡ ShelfFull
    full true h = absurd (let z : ◌≡◌ {A = ℕ} 0 1 = cc in omega arith)
    full false h = cc

taken_holds : (p : Proposal) (s : State) → fits_shelf s (body_key p.body) ≡ true → is_held (body_key p.body) s.ledger.shelf ≡ false
    → (take_up p s).state.ledger.head.view < p.body.view → Holding (body_key p.body) (take_up p s).state.ledger
taken_holds p s room e =
    take_up_ways p s (λ (x : State). x.ledger.head.view < p.body.view → Holding (body_key p.body) x.ledger) (λ _ l. held_there l) (λ _ l. held_there l)
  where
    held_there : (taken_up p s).head.view < p.body.view → Holding (body_key p.body) (taken_up p s)
    held_there = kept_holding s.seat.n (body_key p.body) (with_top p.certificate (placed (fresh p.body (body_name p.body)) s.ledger)) (
      fresh p.body (body_name p.body),
      held_put_new (fresh p.body (body_name p.body)) s.ledger.shelf (unheld _ _ e) (room_left s (body_key p.body) room e),
    )

-- a good proposal that is heard, and not refused for want of room, is held then
pub heard_holds : (table : Table) (s : State) (bytes : List ℕ) (p : Proposal) → shelf_fits s ≡ true → read s.seat.n bytes ≡ Ok (message.Proposal p)
    → p.body.view ≤ s.view → s.ledger.head.view < p.body.view
    → table (leader s.seat.n p.body.view) (proposes (body_key p.body)) p.seal ≡ true
    → certificate_stands table s.seat.n p.certificate ≡ true → ((hear table s bytes).answer ≡ refused ShelfFull → ⊥)
    → (hear table s bytes).state.ledger.head.view < p.body.view → Holding (body_key p.body) (hear table s bytes).state.ledger
heard_holds table s bytes p fits reads a b c d =
    ways.hear_ways table s bytes Good (λ e. absurd (both_ways _ e fits)) (λ u _ e. absurd (other u e)) proposal
    (λ x _ e. absurd (voting x e))
  where
    Good : Outcome → Type 0
    Good o = (o.answer ≡ refused ShelfFull → ⊥) → o.state.ledger.head.view < p.body.view → Holding (body_key p.body) o.state.ledger

    other : (u : Unreadable) → read s.seat.n bytes ≡ Err u → ⊥
    other u e = let z : ◌≡◌ {A = ℕ} 0 1 = cc in omega arith

    voting : (x : Vote) → read s.seat.n bytes ≡ Ok (message.Vote x) → ⊥
    voting x e =
        let f : ◌≡◌ {A = Message} (message.Vote x) (message.Proposal p) = cc in
        let z : ◌≡◌ {A = ℕ} 0 1 = cc in omega arith

    at : (q : Proposal) → q ≡ p → Good (hear_proposal table s q)
    at q e = subst (λ (y : Proposal). Good (hear_proposal table s y)) (sym e)
        (ways.hear_proposal_ways table s p Good
        (λ r g n. absurd (n (ap (λ (y : Refusal). refused y) (only_full table s p r a b c d g))))
        (λ g h n l. is_held_on (body_key p.body) s.ledger.shelf h)
        (λ g h n l. taken_holds p s (proposal_stands table s p g).room h l))

    proposal : (q : Proposal) → shelf_fits s ≡ true → read s.seat.n bytes ≡ Ok (message.Proposal q) → Good (hear_proposal table s q)
    proposal q _ e = at q (let f : ◌≡◌ {A = Message} (message.Proposal q) (message.Proposal p) = cc in cc)

-- ---- votes

-- a voter whose vote was entered is in the tally
pub entered_counts : (n : ℕ) (k : Key) (voter : ℕ) (seal : List ℕ) (g : Ledger) (b : Block) → held k g.shelf ≡ Some b → block_key b ≡ k
    → (settle n (enter n k voter seal g)).ledger.head.view < k.view → Counting k voter (settle n (enter n k voter seal g)).ledger
entered_counts n k voter seal g b h e =
    subst (λ (x : Ledger). (settle n x).ledger.head.view < k.view → Counting k voter (settle n x).ledger) (sym (enter_held n k voter seal b g h))
    (λ l. (
      with_tally b (joined voter seal b.tally),
      settled_held n (entered n k voter seal b g) k (with_tally b (joined voter seal b.tally))
          (held_replaced k b (with_tally b (joined voter seal b.tally)) g.shelf h e) l,
      counts,
    ))
  where
    counts : Holds (joined voter seal b.tally).set voter
    counts =
        cond_both (signed b.tally.set voter) b.tally _ (λ (t : Signers). Holds t.set voter)
        (λ t. eqb-true _ _ t) (λ _. entered_holds b.tally.set voter)

-- a vote for a held block that is heard is in the tally then
pub heard_counts : (table : Table) (s : State) (bytes : List ℕ) (x : Vote) (b : Block) → shelf_fits s ≡ true
    → read s.seat.n bytes ≡ Ok (message.Vote x) → held x.block s.ledger.shelf ≡ Some b → block_key b ≡ x.block
    → table x.voter (votes_for x.block) x.seal ≡ true
    → (hear table s bytes).state.ledger.head.view < x.block.view → Counting x.block x.voter (hear table s bytes).state.ledger
unfolding count_vote
heard_counts table s bytes x b fits reads h named ok =
    ways.hear_ways table s bytes Good (λ e. absurd (both_ways _ e fits)) (λ u _ e. absurd (other u e)) (λ p _ e. absurd (proposal p e))
    (λ y _ e. subst (λ (z : Vote). Good (hear_vote table s z)) (same y e) here)
  where
    Good : Outcome → Type 0
    Good o = o.state.ledger.head.view < x.block.view → Counting x.block x.voter o.state.ledger

    other : (u : Unreadable) → read s.seat.n bytes ≡ Err u → ⊥
    other u e = let z : ◌≡◌ {A = ℕ} 0 1 = cc in omega arith

    proposal : (p : Proposal) → read s.seat.n bytes ≡ Ok (message.Proposal p) → ⊥
    proposal p e =
        let f : ◌≡◌ {A = Message} (message.Vote x) (message.Proposal p) = cc in
        let z : ◌≡◌ {A = ℕ} 0 1 = cc in omega arith

    same : (y : Vote) → read s.seat.n bytes ≡ Ok (message.Vote y) → x ≡ y
    same y e = let f : ◌≡◌ {A = Message} (message.Vote x) (message.Vote y) = cc in cc

    here : Good (hear_vote table s x)
    here =
        ways.hear_vote_ways table s x Good (λ e. absent b (sym e ∙ h)) (λ d _ e. absurd (both_ways _ e ok))
        (λ d e _ f l. (d, e, eqb-true _ _ f))
        (λ d e _ f. entered_counts s.seat.n x.block x.voter x.seal s.ledger b h named)

-- ---- voting

-- a console votes for its candidate when it may
pub votes_now : (seal : List ℕ) (s : State) (t : ℕ) (b : Block) → ((r : Refusal) → (tick seal s t).answer ≡ refused r → ⊥) → t % 2 ≡ 1
    → candidate_block (clocked s t) ≡ Some b → may_vote s.marks (view_of t) b.body.parent.view ≡ true
    → tick seal s t ≡ vote_for b seal (clocked s t)
votes_now seal s t b taken odd choice may =
    ways.tick_ways seal s t Good (λ r _ n. absurd (n r refl)) (λ _ e. absurd (let z : t % 2 ≡ 0 = eqb-true _ _ e in omega arith))
    (λ _ _. ways.vote_ways seal (clocked s t) Good
    (λ d e _ n. ap (λ (x : Block). vote_for x seal (clocked s t)) (same_some d b (sym e ∙ choice)))
    (λ d e f. absurd (both_ways _ f (subst (λ (x : Block). may_vote s.marks (view_of t) x.body.parent.view ≡ true)
    (sym (same_some d b (sym e ∙ choice))) may)))
    (λ e. absent b (sym e ∙ choice)))
    taken
  where
    Good : Outcome → Type 0
    Good o = ((r : Refusal) → o.answer ≡ refused r → ⊥) → o ≡ vote_for b seal (clocked s t)

-- ---- what else a proposal and a vote leave

-- a propose that shows a body was not refused, and shows the one on the top certificate
pub shows_proposal : (seal : List ℕ) (s : State) (owed : Owed) (orders : List Order) (space : ℕ) (body : Body)
    → (propose seal s owed orders space).shown ≡ Some body
    → ProposeStands s owed orders space × (body_on_top s owed orders ≡ body) × (propose seal s owed orders space ≡ propose_body (body_on_top s owed orders) seal s)
unfolding propose_body
shows_proposal seal s owed orders space body =
    propose_ways seal s owed orders space
    (λ (o : Outcome). o.shown ≡ Some body
    → ProposeStands s owed orders space × (body_on_top s owed orders ≡ body) × (o ≡ propose_body (body_on_top s owed orders) seal s))
    (λ x e. absent body e)
    (λ w e. (w, same_some (body_on_top s owed orders) body e, refl))

pub proposed_tick : (s : State) (body : Body) (seal : List ℕ) → (propose_body body seal s).state.tick ≡ s.tick
unfolding propose_body
proposed_tick s body seal = refl

pub voted_state : (b : Block) (seal : List ℕ) (s : State)
    → ((vote_for b seal s).state.tick ≡ s.tick) × ((vote_for b seal s).state.view ≡ s.view)
    × ((vote_for b seal s).state.ledger ≡ (settle s.seat.n (enter s.seat.n (block_key b) s.seat.own seal s.ledger)).ledger)
    × ((vote_for b seal s).state.marks.voted ≡ s.view) × ((vote_for b seal s).state.marks.lock ≡ b.body.parent.view)
unfolding vote_for
voted_state b seal s = (refl, refl, refl, refl, refl)

-- the vote that is made
abbrev pub vote_made : Block → List ℕ → State → Vote
vote_made b seal s = record { block = block_key b; voter = s.seat.own; seal = seal }

pub voted_outcome : (b : Block) (seal : List ℕ) (s : State)
    → ((vote_for b seal s).answer ≡ vote (vote_made b seal s)) × ((vote_for b seal s).sealed ≡ Some (votes_for (block_key b)))
unfolding vote_for
voted_outcome b seal s = (refl, refl)
