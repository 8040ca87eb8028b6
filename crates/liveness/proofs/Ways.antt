-- The ways that change a state, each with what was tested on it.
use Rattle.std.proofs.Common.{◌≡◌, ℕ, ◌%◌, true, false, eqb, List, Some, Ok, ap, arith}
use Rattle.std.proofs.lemmas.Bool.{cond_both, eqb-true, eqb-false}
use Rattle.std.proofs.lemmas.Bool.Decides.{nat_tests}
use Rattle.wire.specs.Format.{body_key, body_name, signed}
use Rattle.wire.specs.Read.{read}
use Rattle.wire.specs.declared.message.Message.TheVariants as message
use Rattle.wire.specs.declared.message.Proposal.{Proposal}
use Rattle.wire.specs.declared.message.Vote.{Vote}
use Rattle.wire.specs.declared.order.Order.{Order}
use Rattle.rules.specs.declared.block.Block.{Block}
use Rattle.rules.specs.declared.refusal.Refusal.{Refusal}
use Rattle.rules.specs.Blocks.{held, is_held}
use Rattle.rules.specs.Hear.{hear, take_up, count_vote, votes_for}
use Rattle.rules.specs.Pit.{view_of}
use Rattle.rules.specs.Propose.{propose, propose_body, body_on_top}
use Rattle.rules.specs.Settle.{settle, fresh, placed, with_top}
use Rattle.rules.specs.State.{State, Ledger, Table, shelf_fits, saved, with_ledger, with_candidate}
use Rattle.rules.specs.Step.{Answer, refused, opens, turn, vote, nothing, proposal, passed, new, known, Owed, Outcome, only}
use Rattle.rules.specs.Tick.{tick, tick_ground, clocked, candidate_block, may_vote, may_take_turn, marks_proposed, vote_for}
use Rattle.safety.proofs.Grounds.{TickStands, tick_stands, ProposeStands, propose_stands, ProposalStands, proposal_stands}
use Rattle.rules.proofs.Ways as ways

-- ---- answers

-- the kinds of answers
abbrev kind : Answer → ℕ
kind (refused r) = 0
kind opens = 1
kind (turn owed) = 2
kind (vote x) = 3
kind nothing = 4
kind (proposal len) = 5
kind passed = 6
kind new = 7
kind known = 8

-- answers of two kinds are not equal
pub other_kind : {B : Type 0} (a b : Answer) → eqb (kind a) (kind b) ≡ false → a ≡ b → B
other_kind a b f e = absurd (eqb-false (kind a) (kind b) f (ap kind e))

-- ---- tick

-- the vote for b was cast at tick t
pub record Cast (s : State) (t : ℕ) (b : Block) : Type 0 where
  pub taken : TickStands s t
  pub odd : t % 2 ≡ 1
  pub choice : candidate_block (clocked s t) ≡ Some b
  pub may : may_vote s.marks (view_of t) b.body.parent.view ≡ true

-- the turn was answered at tick t
pub record Turned (s : State) (t : ℕ) : Type 0 where
  pub taken : TickStands s t
  pub may : may_take_turn (clocked s t) ≡ true

abbrev pub turned : State → Outcome
turned s =
    only (turn (record { console = s.seat.own; view = s.view })) (saved s (marks_proposed s.marks s.view))

pub tick_ways :
    (seal : List ℕ) (s : State) (t : ℕ) (P : Outcome → Type 0) →
    ((r : Refusal) → tick_ground s t ≡ Some r → P (only (refused r) s)) →
    (Turned s t → P (turned (clocked s t))) →
    (TickStands s t → P (only nothing (clocked s t))) →
    ((b : Block) → Cast s t b → P (vote_for b seal (clocked s t))) → P (tick seal s t)
tick_ways seal s t P r u n c =
    ways.tick_ways seal s t P r
    (λ e f. let k = tick_stands s t e in ways.turn_ways (clocked s t) P
    (λ m. u (record { taken = k; may = m })) (λ m. n k))
    (λ e f. let k = tick_stands s t e in ways.vote_ways seal (clocked s t) P
    (λ b h m. c b (record { taken = k; odd = grind (arith, nat_tests); choice = h; may = m })) (λ b h m. n k) (λ h. n k))

-- ---- propose

pub propose_ways :
    (seal : List ℕ) (s : State) (owed : Owed) (orders : List Order) (space : ℕ) (P : Outcome → Type 0) →
    ((r : Refusal) → P (only (refused r) s)) →
    (ProposeStands s owed orders space → P (propose_body (body_on_top s owed orders) seal s)) →
    P (propose seal s owed orders space)
propose_ways seal s owed orders space P r c =
    ways.propose_ways seal s owed orders space P (λ x _. r x) (λ e. c (propose_stands s owed orders space e))

-- ---- hear

-- the message is a good proposal, and new
pub record Fresh (table : Table) (s : State) (bytes : List ℕ) (p : Proposal) : Type 0 where
  pub fits : shelf_fits s ≡ true
  pub reads : read s.seat.n bytes ≡ Ok (message.Proposal p)
  pub good : ProposalStands table s p
  pub unheld : is_held (body_key p.body) s.ledger.shelf ≡ false

-- the message is a new vote for a held block
pub record Voiced (table : Table) (s : State) (bytes : List ℕ) (x : Vote) (b : Block) : Type 0 where
  pub fits : shelf_fits s ≡ true
  pub reads : read s.seat.n bytes ≡ Ok (message.Vote x)
  pub holds : held x.block s.ledger.shelf ≡ Some b
  pub seal : table x.voter (votes_for x.block) x.seal ≡ true
  pub unsigned : signed b.tally.set x.voter ≡ false

pub hear_ways :
    (table : Table) (s : State) (bytes : List ℕ) (P : Outcome → Type 0) →
    ((r : Refusal) → P (only (refused r) s)) →
    P (only known s) →
    ((p : Proposal) → Fresh table s bytes p → P (take_up p s)) →
    ((x : Vote) (b : Block) → Voiced table s bytes x b → P (count_vote x s)) → P (hear table s bytes)
hear_ways table s bytes P r k c d =
    ways.hear_ways table s bytes P (λ _. r _) (λ u _ _. r _)
    (λ p f e. ways.hear_proposal_ways table s p P (λ x _. r x) (λ _ _. k)
    (λ g n. c p (record { fits = f; reads = e; good = proposal_stands table s p g; unheld = n })))
    (λ x f e. ways.hear_vote_ways table s x P (λ _. r _) (λ b _ _. r _) (λ b _ _ _. k)
    (λ b h t u. d x b (record { fits = f; reads = e; holds = h; seal = t; unsigned = u })))

-- the ledger after a new proposal was taken up
abbrev pub taken_up : Proposal → State → Ledger
taken_up p s =
    (settle s.seat.n (with_top p.certificate (placed (fresh p.body (body_name p.body)) s.ledger))).ledger

-- the state after it, by whether it is of the console's view
pub take_up_ways :
    (p : Proposal) (s : State) (P : State → Type 0) →
    (p.body.view ≡ s.view → P (with_candidate (with_ledger s (taken_up p s)) (body_name p.body))) →
    ((p.body.view ≡ s.view → ⊥) → P (with_ledger s (taken_up p s))) → P (take_up p s).state
unfolding take_up
take_up_ways p s P same other =
    cond_both (eqb p.body.view s.view) _ _ P (λ e. same (eqb-true _ _ e)) (λ e. other (eqb-false _ _ e))
