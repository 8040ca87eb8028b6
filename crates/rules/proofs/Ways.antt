-- What each call can come to: a property of its outcome holds if it holds of every way that the call can go.
use Rattle.std.proofs.Common.{◌≡◌, ℕ, Bool, true, false, cond, not, List, Some, None, Ok, Err, Option, Result, refl}
use Rattle.std.proofs.lemmas.Bool.{cond_both}
use Rattle.wire.specs.Format.{body_key, signed}
use Rattle.wire.specs.Read.{read}
use Rattle.wire.specs.declared.message.Message.{Message}
use Rattle.wire.specs.declared.message.Message.TheVariants as message
use Rattle.wire.specs.declared.message.Proposal.{Proposal}
use Rattle.wire.specs.declared.message.Vote.{Vote}
use Rattle.wire.specs.declared.order.Order.{Order}
use Rattle.wire.specs.declared.unreadable.Unreadable.{Unreadable}
use Rattle.rules.specs.declared.block.Block.{Block}
use Rattle.rules.specs.declared.refusal.Refusal.{Refusal}
use Rattle.rules.specs.declared.refusal.Refusal.TheVariants.{ShelfSize, NotHeld, VoterSeal}
use Rattle.rules.specs.Blocks.{Slot, is_held, held}
use Rattle.rules.specs.Hear.{votes_for, proposal_ground, take_up, hear_proposal, count_vote, hear_vote, unread, hear_message, hear}
use Rattle.rules.specs.Pit.{for_proposing}
use Rattle.rules.specs.Propose.{body_on_top, propose_ground, propose_body, propose}
use Rattle.rules.specs.State.{State, Table, shelf_fits, saved}
use Rattle.rules.specs.Step.{refused, turn, nothing, known, Owed, Outcome, only}
use Rattle.rules.specs.Tick.{tick_ground, clocked, candidate_block, may_vote, marks_proposed, may_take_turn, take_turn, vote_for, cast_vote, tick}

-- a refusal, if there is a ground, else what is done
by_ground : (ground : Option Refusal) (s : State) (o : Outcome) (P : Outcome → Type 0)
    → ((r : Refusal) → ground ≡ Some r → P (only (refused r) s)) → (ground ≡ None → P o)
    → P (elim ground [ Some r ↦ only (refused r) s | None ↦ o ])
by_ground None s o P no_way done_way = done_way refl
by_ground (Some r) s o P no_way done_way = no_way r refl

-- ---- tick

pub turn_ways : (s : State) (P : Outcome → Type 0)
    → (may_take_turn s ≡ true → P (only (turn (record { console = s.seat.own; view = s.view })) (saved s (marks_proposed s.marks s.view))))
    → (may_take_turn s ≡ false → P (only nothing s))
    → P (take_turn s)
unfolding take_turn
turn_ways s P takes quiet = cond_both (may_take_turn s) _ _ P takes quiet

pub vote_ways : (seal : List ℕ) (s : State) (P : Outcome → Type 0)
    → ((b : Block) → candidate_block s ≡ Some b → may_vote s.marks s.view b.body.parent.view ≡ true → P (vote_for b seal s))
    → ((b : Block) → candidate_block s ≡ Some b → may_vote s.marks s.view b.body.parent.view ≡ false → P (only nothing s))
    → (candidate_block s ≡ None → P (only nothing s))
    → P (cast_vote seal s)
unfolding cast_vote
vote_ways seal s P votes locked none = at (candidate_block s) refl
  where
    at : (o : Slot) → candidate_block s ≡ o
        → P (elim o [
          | None ↦ only nothing s
          | Some b ↦ cond (may_vote s.marks s.view b.body.parent.view) (vote_for b seal s) (only nothing s)
        ])
    at None e = none e
    at (Some b) e =
        cond_both (may_vote s.marks s.view b.body.parent.view) _ _ P (votes b e) (locked b e)

pub tick_ways : (seal : List ℕ) (s : State) (t : ℕ) (P : Outcome → Type 0)
    → ((r : Refusal) → tick_ground s t ≡ Some r → P (only (refused r) s))
    → (tick_ground s t ≡ None → for_proposing t ≡ true → P (take_turn (clocked s t)))
    → (tick_ground s t ≡ None → for_proposing t ≡ false → P (cast_vote seal (clocked s t)))
    → P (tick seal s t)
unfolding tick
tick_ways seal s t P no_way turns votes =
    by_ground (tick_ground s t) s _ P no_way
    (λ e. cond_both (for_proposing t) _ _ P (turns e) (votes e))

-- ---- propose

pub propose_ways : (seal : List ℕ) (s : State) (owed : Owed) (orders : List Order) (space : ℕ) (P : Outcome → Type 0)
    → ((r : Refusal) → propose_ground s owed orders space ≡ Some r → P (only (refused r) s))
    → (propose_ground s owed orders space ≡ None → P (propose_body (body_on_top s owed orders) seal s))
    → P (propose seal s owed orders space)
unfolding propose
propose_ways seal s owed orders space P no_way proposes =
    by_ground (propose_ground s owed orders space) s _ P no_way proposes

-- ---- hear

pub hear_proposal_ways : (table : Table) (s : State) (p : Proposal) (P : Outcome → Type 0)
    → ((r : Refusal) → proposal_ground table s p ≡ Some r → P (only (refused r) s))
    → (proposal_ground table s p ≡ None → is_held (body_key p.body) s.ledger.shelf ≡ true → P (only known s))
    → (proposal_ground table s p ≡ None → is_held (body_key p.body) s.ledger.shelf ≡ false → P (take_up p s))
    → P (hear_proposal table s p)
unfolding hear_proposal
hear_proposal_ways table s p P no_way knows takes =
    by_ground (proposal_ground table s p) s _ P no_way
    (λ e. cond_both (is_held (body_key p.body) s.ledger.shelf) _ _ P (knows e) (takes e))

pub hear_vote_ways : (table : Table) (s : State) (v : Vote) (P : Outcome → Type 0)
    → (held v.block s.ledger.shelf ≡ None → P (only (refused NotHeld) s))
    → ((b : Block) → held v.block s.ledger.shelf ≡ Some b → table v.voter (votes_for v.block) v.seal ≡ false
    → P (only (refused VoterSeal) s))
    → ((b : Block) → held v.block s.ledger.shelf ≡ Some b → table v.voter (votes_for v.block) v.seal ≡ true
    → signed b.tally.set v.voter ≡ true → P (only known s))
    → ((b : Block) → held v.block s.ledger.shelf ≡ Some b → table v.voter (votes_for v.block) v.seal ≡ true
    → signed b.tally.set v.voter ≡ false → P (count_vote v s))
    → P (hear_vote table s v)
unfolding hear_vote
hear_vote_ways table s v P none forged knows counts = at (held v.block s.ledger.shelf) refl
  where
    sealed : (b : Block) → held v.block s.ledger.shelf ≡ Some b → (t : Bool)
        → table v.voter (votes_for v.block) v.seal ≡ t
        → P (cond (not t) (only (refused VoterSeal) s) (cond (signed b.tally.set v.voter) (only known s) (count_vote v s)))
    sealed b e false f = forged b e f
    sealed b e true f = cond_both (signed b.tally.set v.voter) _ _ P (knows b e f) (counts b e f)

    at : (o : Slot) → held v.block s.ledger.shelf ≡ o
        → P (elim o [
          | None ↦ only (refused NotHeld) s
          | Some b ↦ cond (not (table v.voter (votes_for v.block) v.seal)) (only (refused VoterSeal) s)
              (cond (signed b.tally.set v.voter) (only known s) (count_vote v s))
        ])
    at None e = none e
    at (Some b) e = sealed b e (table v.voter (votes_for v.block) v.seal) refl

pub hear_ways : (table : Table) (s : State) (bytes : List ℕ) (P : Outcome → Type 0)
    → (shelf_fits s ≡ false → P (only (refused ShelfSize) s))
    → ((u : Unreadable) → shelf_fits s ≡ true → read s.seat.n bytes ≡ Err u → P (only (refused (unread u)) s))
    → ((p : Proposal) → shelf_fits s ≡ true → read s.seat.n bytes ≡ Ok (message.Proposal p) → P (hear_proposal table s p))
    → ((v : Vote) → shelf_fits s ≡ true → read s.seat.n bytes ≡ Ok (message.Vote v) → P (hear_vote table s v))
    → P (hear table s bytes)
unfolding hear hear_message
hear_ways table s bytes P wrong unreadable proposals votes = fits (shelf_fits s) refl
  where
    at : shelf_fits s ≡ true → (r : Result Message Unreadable) → read s.seat.n bytes ≡ r
        → P (elim r [ Err u ↦ only (refused (unread u)) s | Ok m ↦ hear_message table s m ])
    at f (Err u) e = unreadable u f e
    at f (Ok (message.Proposal p)) e = proposals p f e
    at f (Ok (message.Vote v)) e = votes v f e

    fits : (t : Bool) → shelf_fits s ≡ t
        → P (cond (not t) (only (refused ShelfSize) s)
        (elim (read s.seat.n bytes) [ Err u ↦ only (refused (unread u)) s | Ok m ↦ hear_message table s m ]))
    fits false f = wrong f
    fits true f = at f (read s.seat.n bytes) refl
