-- Which way a call goes, by what is known of the state.
use Rattle.std.proofs.Common.{◌≡◌, ℕ, ◌<◌, ◌≤◌, Bool, true, false, cond, not, ltb, leb, List, Some, None, Ok, Err, Option, Result, sym, ap, ◌∙◌}
use Rattle.std.proofs.lemmas.Bool.{cond-true, cond-false, le-leb, lt-leb, lt-ltb, le-ltb, not_from_true, not_from_false}
use Rattle.rules.specs.Blocks.{Slot, is_held, held}
use Rattle.rules.specs.Hear.{votes_for, proposes, certificate_stands, proposal_ground, take_up, hear_proposal, count_vote, hear_vote, unread, hear_message, hear}
use Rattle.rules.specs.Pit.{for_proposing, leader}
use Rattle.rules.specs.Propose.{body_on_top, turn_stands, orders_stand, fits_shelf, propose_ground, propose_body, propose}
use Rattle.rules.specs.State.{State, Table, shelf_fits, saved}
use Rattle.rules.specs.Step.{refused, turn, nothing, known, Owed, only}
use Rattle.rules.specs.Tick.{tick_ground, clocked, candidate_block, may_vote, marks_proposed, may_take_turn, take_turn, vote_for, cast_vote, tick}
use Rattle.rules.specs.declared.block.Block.{Block}
use Rattle.rules.specs.declared.refusal.Refusal.{Refusal}
use Rattle.rules.specs.declared.refusal.Refusal.TheVariants.{ShelfSize, OldTick, NotItsTurn, ShortOutput, BadOrders, ShelfFull, ViewAhead, NotAboveHead, LeaderSeal, BadCertificate, NotHeld, VoterSeal}
use Rattle.wire.specs.Format.{body_key, signed}
use Rattle.wire.specs.Read.{read}
use Rattle.wire.specs.declared.key.Key.{Key}
use Rattle.wire.specs.declared.message.Message.{Message}
use Rattle.wire.specs.declared.message.Message.TheVariants as message
use Rattle.wire.specs.declared.message.Proposal.{Proposal}
use Rattle.wire.specs.declared.message.Vote.{Vote}
use Rattle.wire.specs.declared.order.Order.{Order}
use Rattle.wire.specs.declared.unreadable.Unreadable.{Unreadable}

-- ---- tick

pub turn_taken : (s : State) → may_take_turn s ≡ true →
    take_turn s ≡ only (turn (record { console = s.seat.own; view = s.view })) (saved s (marks_proposed s.marks s.view))
unfolding take_turn
turn_taken s e = cond-true (may_take_turn s) _ _ e

pub turn_not : (s : State) → may_take_turn s ≡ false → take_turn s ≡ only nothing s
unfolding take_turn
turn_not s e = cond-false (may_take_turn s) _ _ e

cast_at : (seal : List ℕ) (s : State) (x : Slot) → candidate_block s ≡ x →
    cast_vote seal s ≡ elim x [
      | None ↦ only nothing s
      | Some b ↦ cond (may_vote s.marks s.view b.body.parent.view) (vote_for b seal s) (only nothing s)
    ]
unfolding cast_vote
cast_at seal s x e =
    ap (λ (y : Slot). elim y [
      | None ↦ only nothing s
      | Some b ↦ cond (may_vote s.marks s.view b.body.parent.view) (vote_for b seal s) (only nothing s)
    ]) e

pub cast_none : (seal : List ℕ) (s : State) → candidate_block s ≡ None → cast_vote seal s ≡ only nothing s
cast_none seal s e = cast_at seal s None e

pub cast_not : (seal : List ℕ) (s : State) (b : Block) → candidate_block s ≡ Some b →
    may_vote s.marks s.view b.body.parent.view ≡ false → cast_vote seal s ≡ only nothing s
cast_not seal s b e f = cast_at seal s (Some b) e ∙ cond-false (may_vote s.marks s.view b.body.parent.view) _ _ f

pub cast_so : (seal : List ℕ) (s : State) (b : Block) → candidate_block s ≡ Some b →
    may_vote s.marks s.view b.body.parent.view ≡ true → cast_vote seal s ≡ vote_for b seal s
cast_so seal s b e f = cast_at seal s (Some b) e ∙ cond-true (may_vote s.marks s.view b.body.parent.view) _ _ f

tick_at : (seal : List ℕ) (s : State) (t : ℕ) (x : Option Refusal) → tick_ground s t ≡ x →
    tick seal s t ≡ elim x [ Some r ↦ only (refused r) s | None ↦ cond (for_proposing t) (take_turn (clocked s t)) (cast_vote seal (clocked s t)) ]
unfolding tick
tick_at seal s t x e =
    ap (λ (y : Option Refusal). elim y [ Some r ↦ only (refused r) s | None ↦ cond (for_proposing t) (take_turn (clocked s t)) (cast_vote seal (clocked s t)) ]) e

tick_fits : (s : State) (t : ℕ) → shelf_fits s ≡ true → tick_ground s t ≡ cond (leb t s.tick) (Some OldTick) None
tick_fits s t e = ap (λ (b : Bool). cond (not b) (Some ShelfSize) (cond (leb t s.tick) (Some OldTick) None)) e

pub tick_unfit : (seal : List ℕ) (s : State) (t : ℕ) → shelf_fits s ≡ false → tick seal s t ≡ only (refused ShelfSize) s
tick_unfit seal s t e =
    tick_at seal s t (Some ShelfSize) (ap (λ (b : Bool). cond (not b) (Some ShelfSize) (cond (leb t s.tick) (Some OldTick) None)) e)

pub tick_old : (seal : List ℕ) (s : State) (t : ℕ) → shelf_fits s ≡ true → t ≤ s.tick → tick seal s t ≡ only (refused OldTick) s
tick_old seal s t e l = tick_at seal s t (Some OldTick) (tick_fits s t e ∙ cond-true (leb t s.tick) _ _ (le-leb _ _ l))

tick_new : (seal : List ℕ) (s : State) (t : ℕ) → shelf_fits s ≡ true → s.tick < t →
    tick seal s t ≡ cond (for_proposing t) (take_turn (clocked s t)) (cast_vote seal (clocked s t))
tick_new seal s t e l = tick_at seal s t None (tick_fits s t e ∙ cond-false (leb t s.tick) _ _ (lt-leb _ _ l))

pub tick_turn : (seal : List ℕ) (s : State) (t : ℕ) → shelf_fits s ≡ true → s.tick < t → for_proposing t ≡ true →
    tick seal s t ≡ take_turn (clocked s t)
tick_turn seal s t e l f = tick_new seal s t e l ∙ cond-true (for_proposing t) _ _ f

pub tick_vote : (seal : List ℕ) (s : State) (t : ℕ) → shelf_fits s ≡ true → s.tick < t → for_proposing t ≡ false →
    tick seal s t ≡ cast_vote seal (clocked s t)
tick_vote seal s t e l f = tick_new seal s t e l ∙ cond-false (for_proposing t) _ _ f

-- ---- propose

pub propose_unfit : (s : State) (o : Owed) (os : List Order) (space : ℕ) → shelf_fits s ≡ false → propose_ground s o os space ≡ Some ShelfSize
unfolding propose_ground
propose_unfit s o os space e = cond-true (not (shelf_fits s)) _ _ (not_from_false _ e)

pub propose_turn : (s : State) (o : Owed) (os : List Order) (space : ℕ) → shelf_fits s ≡ true → turn_stands s o ≡ false →
    propose_ground s o os space ≡ Some NotItsTurn
unfolding propose_ground
propose_turn s o os space e f =
    cond-false (not (shelf_fits s)) _ _ (not_from_true _ e) ∙ cond-true (not (turn_stands s o)) _ _ (not_from_false _ f)

pub propose_short : (s : State) (o : Owed) (os : List Order) (space : ℕ) → shelf_fits s ≡ true → turn_stands s o ≡ true → space < 421 →
    propose_ground s o os space ≡ Some ShortOutput
unfolding propose_ground
propose_short s o os space e f l =
    cond-false (not (shelf_fits s)) _ _ (not_from_true _ e) ∙ cond-false (not (turn_stands s o)) _ _ (not_from_true _ f)
    ∙ cond-true (ltb space 421) _ _ (lt-ltb _ _ l)

pub propose_bad : (s : State) (o : Owed) (os : List Order) (space : ℕ) → shelf_fits s ≡ true → turn_stands s o ≡ true → 421 ≤ space →
    orders_stand os ≡ false → propose_ground s o os space ≡ Some BadOrders
unfolding propose_ground
propose_bad s o os space e f l h =
    cond-false (not (shelf_fits s)) _ _ (not_from_true _ e) ∙ cond-false (not (turn_stands s o)) _ _ (not_from_true _ f)
    ∙ cond-false (ltb space 421) _ _ (le-ltb _ _ l) ∙ cond-true (not (orders_stand os)) _ _ (not_from_false _ h)

-- with all this in order, only the shelf can be in the way
propose_left : (s : State) (o : Owed) (os : List Order) (space : ℕ) → shelf_fits s ≡ true → turn_stands s o ≡ true → 421 ≤ space →
    orders_stand os ≡ true →
    propose_ground s o os space ≡ cond (not (fits_shelf s (body_key (body_on_top s o os)))) (Some ShelfFull) None
unfolding propose_ground
propose_left s o os space e f l h =
    cond-false (not (shelf_fits s)) _ _ (not_from_true _ e) ∙ cond-false (not (turn_stands s o)) _ _ (not_from_true _ f)
    ∙ cond-false (ltb space 421) _ _ (le-ltb _ _ l) ∙ cond-false (not (orders_stand os)) _ _ (not_from_true _ h)

pub propose_full : (s : State) (o : Owed) (os : List Order) (space : ℕ) → shelf_fits s ≡ true → turn_stands s o ≡ true → 421 ≤ space →
    orders_stand os ≡ true → fits_shelf s (body_key (body_on_top s o os)) ≡ false → propose_ground s o os space ≡ Some ShelfFull
propose_full s o os space e f l h i = propose_left s o os space e f l h ∙ cond-true _ _ _ (not_from_false _ i)

pub propose_open : (s : State) (o : Owed) (os : List Order) (space : ℕ) → shelf_fits s ≡ true → turn_stands s o ≡ true → 421 ≤ space →
    orders_stand os ≡ true → fits_shelf s (body_key (body_on_top s o os)) ≡ true → propose_ground s o os space ≡ None
propose_open s o os space e f l h i = propose_left s o os space e f l h ∙ cond-false _ _ _ (not_from_true _ i)

propose_at : (seal : List ℕ) (s : State) (o : Owed) (os : List Order) (space : ℕ) (x : Option Refusal) → propose_ground s o os space ≡ x →
    propose seal s o os space ≡ elim x [ Some r ↦ only (refused r) s | None ↦ propose_body (body_on_top s o os) seal s ]
unfolding propose
propose_at seal s o os space x e =
    ap (λ (y : Option Refusal). elim y [ Some r ↦ only (refused r) s | None ↦ propose_body (body_on_top s o os) seal s ]) e

pub propose_refused : (seal : List ℕ) (s : State) (o : Owed) (os : List Order) (space : ℕ) (r : Refusal) → propose_ground s o os space ≡ Some r →
    propose seal s o os space ≡ only (refused r) s
propose_refused seal s o os space r e = propose_at seal s o os space (Some r) e

pub propose_done : (seal : List ℕ) (s : State) (o : Owed) (os : List Order) (space : ℕ) → propose_ground s o os space ≡ None →
    propose seal s o os space ≡ propose_body (body_on_top s o os) seal s
propose_done seal s o os space e = propose_at seal s o os space None e

-- ---- hear

-- the tests of a proposal, in their order
pub ground_view : (t : Table) (s : State) (p : Proposal) → s.view < p.body.view → proposal_ground t s p ≡ Some ViewAhead
unfolding proposal_ground
ground_view t s p l = cond-true (ltb s.view p.body.view) _ _ (lt-ltb _ _ l)

-- the proposal's seal is its leader's
abbrev leaders : Table → State → Proposal → Bool
leaders t s p = t (leader s.seat.n p.body.view) (proposes (body_key p.body)) p.seal

pub leaders_by : (t : Table) (s : State) (p : Proposal) (k : Key) (r : Bool) → k ≡ body_key p.body →
    r ≡ t (leader s.seat.n k.view) (proposes k) p.seal → leaders t s p ≡ r
leaders_by t s p k r e f = sym (f ∙ ap (λ (x : Key). t (leader s.seat.n x.view) (proposes x) p.seal) e)

pub ground_head : (t : Table) (s : State) (p : Proposal) → p.body.view ≤ s.view → p.body.view ≤ s.ledger.head.view →
    proposal_ground t s p ≡ Some NotAboveHead
unfolding proposal_ground
ground_head t s p l h =
    cond-false (ltb s.view p.body.view) _ _ (le-ltb _ _ l) ∙ cond-true (leb p.body.view s.ledger.head.view) _ _ (le-leb _ _ h)

pub ground_leader : (t : Table) (s : State) (p : Proposal) → p.body.view ≤ s.view → s.ledger.head.view < p.body.view →
    leaders t s p ≡ false → proposal_ground t s p ≡ Some LeaderSeal
unfolding proposal_ground
ground_leader t s p l h e =
    cond-false (ltb s.view p.body.view) _ _ (le-ltb _ _ l) ∙ cond-false (leb p.body.view s.ledger.head.view) _ _ (lt-leb _ _ h)
    ∙ cond-true (not (leaders t s p)) _ _ (not_from_false _ e)

pub ground_certificate : (t : Table) (s : State) (p : Proposal) → p.body.view ≤ s.view → s.ledger.head.view < p.body.view →
    leaders t s p ≡ true → certificate_stands t s.seat.n p.certificate ≡ false → proposal_ground t s p ≡ Some BadCertificate
unfolding proposal_ground
ground_certificate t s p l h e f =
    cond-false (ltb s.view p.body.view) _ _ (le-ltb _ _ l) ∙ cond-false (leb p.body.view s.ledger.head.view) _ _ (lt-leb _ _ h)
    ∙ cond-false (not (leaders t s p)) _ _ (not_from_true _ e)
    ∙ cond-true (not (certificate_stands t s.seat.n p.certificate)) _ _ (not_from_false _ f)

ground_left : (t : Table) (s : State) (p : Proposal) → p.body.view ≤ s.view → s.ledger.head.view < p.body.view →
    leaders t s p ≡ true → certificate_stands t s.seat.n p.certificate ≡ true →
    proposal_ground t s p ≡ cond (not (fits_shelf s (body_key p.body))) (Some ShelfFull) None
unfolding proposal_ground
ground_left t s p l h e f =
    cond-false (ltb s.view p.body.view) _ _ (le-ltb _ _ l) ∙ cond-false (leb p.body.view s.ledger.head.view) _ _ (lt-leb _ _ h)
    ∙ cond-false (not (leaders t s p)) _ _ (not_from_true _ e)
    ∙ cond-false (not (certificate_stands t s.seat.n p.certificate)) _ _ (not_from_true _ f)

pub ground_full : (t : Table) (s : State) (p : Proposal) → p.body.view ≤ s.view → s.ledger.head.view < p.body.view →
    leaders t s p ≡ true → certificate_stands t s.seat.n p.certificate ≡ true → fits_shelf s (body_key p.body) ≡ false →
    proposal_ground t s p ≡ Some ShelfFull
ground_full t s p l h e f i = ground_left t s p l h e f ∙ cond-true _ _ _ (not_from_false _ i)

pub ground_none : (t : Table) (s : State) (p : Proposal) → p.body.view ≤ s.view → s.ledger.head.view < p.body.view →
    leaders t s p ≡ true → certificate_stands t s.seat.n p.certificate ≡ true → fits_shelf s (body_key p.body) ≡ true →
    proposal_ground t s p ≡ None
ground_none t s p l h e f i = ground_left t s p l h e f ∙ cond-false _ _ _ (not_from_true _ i)

proposal_at : (t : Table) (s : State) (p : Proposal) (x : Option Refusal) → proposal_ground t s p ≡ x →
    hear_proposal t s p ≡ elim x [
      | Some r ↦ only (refused r) s
      | None ↦ cond (is_held (body_key p.body) s.ledger.shelf) (only known s) (take_up p s)
    ]
unfolding hear_proposal
proposal_at t s p x e =
    ap (λ (y : Option Refusal). elim y [
      | Some r ↦ only (refused r) s
      | None ↦ cond (is_held (body_key p.body) s.ledger.shelf) (only known s) (take_up p s)
    ]) e

pub proposal_refused : (t : Table) (s : State) (p : Proposal) (r : Refusal) → proposal_ground t s p ≡ Some r → hear_proposal t s p ≡ only (refused r) s
proposal_refused t s p r e = proposal_at t s p (Some r) e

pub proposal_known : (t : Table) (s : State) (p : Proposal) → proposal_ground t s p ≡ None → is_held (body_key p.body) s.ledger.shelf ≡ true →
    hear_proposal t s p ≡ only known s
proposal_known t s p e f = proposal_at t s p None e ∙ cond-true (is_held (body_key p.body) s.ledger.shelf) _ _ f

pub proposal_new : (t : Table) (s : State) (p : Proposal) → proposal_ground t s p ≡ None → is_held (body_key p.body) s.ledger.shelf ≡ false →
    hear_proposal t s p ≡ take_up p s
proposal_new t s p e f = proposal_at t s p None e ∙ cond-false (is_held (body_key p.body) s.ledger.shelf) _ _ f

vote_at : (t : Table) (s : State) (v : Vote) (x : Slot) → held v.block s.ledger.shelf ≡ x →
    hear_vote t s v ≡ elim x [
      | None ↦ only (refused NotHeld) s
      | Some b ↦
          cond (not (t v.voter (votes_for v.block) v.seal))
          (only (refused VoterSeal) s)
          (cond (signed b.tally.set v.voter) (only known s) (count_vote v s))
    ]
unfolding hear_vote
vote_at t s v x e =
    ap (λ (y : Slot). elim y [
      | None ↦ only (refused NotHeld) s
      | Some b ↦
          cond (not (t v.voter (votes_for v.block) v.seal))
          (only (refused VoterSeal) s)
          (cond (signed b.tally.set v.voter) (only known s) (count_vote v s))
    ]) e

pub vote_unheld : (t : Table) (s : State) (v : Vote) → held v.block s.ledger.shelf ≡ None → hear_vote t s v ≡ only (refused NotHeld) s
vote_unheld t s v e = vote_at t s v None e

pub vote_forged : (t : Table) (s : State) (v : Vote) (b : Block) → held v.block s.ledger.shelf ≡ Some b →
    t v.voter (votes_for v.block) v.seal ≡ false → hear_vote t s v ≡ only (refused VoterSeal) s
vote_forged t s v b e f = vote_at t s v (Some b) e ∙ cond-true (not (t v.voter (votes_for v.block) v.seal)) _ _ (not_from_false _ f)

pub vote_known : (t : Table) (s : State) (v : Vote) (b : Block) → held v.block s.ledger.shelf ≡ Some b →
    t v.voter (votes_for v.block) v.seal ≡ true → signed b.tally.set v.voter ≡ true → hear_vote t s v ≡ only known s
vote_known t s v b e f h =
    vote_at t s v (Some b) e ∙ cond-false (not (t v.voter (votes_for v.block) v.seal)) _ _ (not_from_true _ f)
    ∙ cond-true (signed b.tally.set v.voter) _ _ h

pub vote_new : (t : Table) (s : State) (v : Vote) (b : Block) → held v.block s.ledger.shelf ≡ Some b →
    t v.voter (votes_for v.block) v.seal ≡ true → signed b.tally.set v.voter ≡ false → hear_vote t s v ≡ count_vote v s
vote_new t s v b e f h =
    vote_at t s v (Some b) e ∙ cond-false (not (t v.voter (votes_for v.block) v.seal)) _ _ (not_from_true _ f)
    ∙ cond-false (signed b.tally.set v.voter) _ _ h

pub hear_unfit : (t : Table) (s : State) (bytes : List ℕ) → shelf_fits s ≡ false → hear t s bytes ≡ only (refused ShelfSize) s
unfolding hear
hear_unfit t s bytes e = cond-true (not (shelf_fits s)) _ _ (not_from_false _ e)

hear_at : (t : Table) (s : State) (bytes : List ℕ) (x : Result Message Unreadable) → shelf_fits s ≡ true → read s.seat.n bytes ≡ x →
    hear t s bytes ≡ elim x [ Err u ↦ only (refused (unread u)) s | Ok m ↦ hear_message t s m ]
unfolding hear
hear_at t s bytes x e f =
    cond-false (not (shelf_fits s)) _ _ (not_from_true _ e)
    ∙ ap (λ (y : Result Message Unreadable). elim y [ Err u ↦ only (refused (unread u)) s | Ok m ↦ hear_message t s m ]) f

pub hear_unread : (t : Table) (s : State) (bytes : List ℕ) (u : Unreadable) → shelf_fits s ≡ true → read s.seat.n bytes ≡ Err u →
    hear t s bytes ≡ only (refused (unread u)) s
hear_unread t s bytes u e f = hear_at t s bytes (Err u) e f

pub hear_as_proposal : (t : Table) (s : State) (bytes : List ℕ) (p : Proposal) → shelf_fits s ≡ true →
    read s.seat.n bytes ≡ Ok (message.Proposal p) → hear t s bytes ≡ hear_proposal t s p
unfolding hear_message
hear_as_proposal t s bytes p e f = hear_at t s bytes (Ok (message.Proposal p)) e f

pub hear_as_vote : (t : Table) (s : State) (bytes : List ℕ) (v : Vote) → shelf_fits s ≡ true →
    read s.seat.n bytes ≡ Ok (message.Vote v) → hear t s bytes ≡ hear_vote t s v
unfolding hear_message
hear_as_vote t s bytes v e f = hear_at t s bytes (Ok (message.Vote v)) e f
