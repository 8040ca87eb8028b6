-- hear: one message of any bytes.
use Rattle.std.specs.Prelude.{ℕ, zero, suc, Bool, true, cond, not, ◌&&◌, ◌||◌, List, [], ◌∷◌, ◌++◌, Some, None, Ok, Err, Option, ◌==◌, nat_le, nat_lt, slice_index_or}
use Rattle.votes.specs.Quorum.{is_quorum}
use Rattle.wire.specs.Format.{body_key, body_name, signed}
use Rattle.wire.specs.Read.{read}
use Rattle.wire.specs.declared.body.Body.{Body}
use Rattle.wire.specs.declared.certificate.Certificate.{Certificate}
use Rattle.wire.specs.declared.certificate.Signers.{Signers}
use Rattle.wire.specs.declared.key.Key.{Key}
use Rattle.wire.specs.declared.message.Message.{Message}
use Rattle.wire.specs.declared.message.Message.TheVariants as message
use Rattle.wire.specs.declared.message.Proposal.{Proposal}
use Rattle.wire.specs.declared.message.Vote.{Vote}
use Rattle.wire.specs.declared.statement.Statement.{Statement}
use Rattle.wire.specs.declared.statement.Purpose.TheVariants as purpose
use Rattle.wire.specs.declared.unreadable.Unreadable.{Unreadable}
use Rattle.wire.specs.declared.unreadable.Unreadable.TheVariants as unreadable
use Rattle.rules.specs.declared.refusal.Refusal.{Refusal}
use Rattle.rules.specs.declared.refusal.Refusal.TheVariants.{ShelfSize, Mark, Length, Form, ViewAhead, NotAboveHead, LeaderSeal, BadCertificate, ShelfFull, NotHeld, VoterSeal}
use Rattle.rules.specs.Blocks.{is_held, held}
use Rattle.rules.specs.Pit.{leader}
use Rattle.rules.specs.Propose.{fits_shelf}
use Rattle.rules.specs.Settle.{Settled, enter, fresh, placed, settle, with_top}
use Rattle.rules.specs.State.{State, Ledger, Table, shelf_fits, with_ledger, with_candidate}
use Rattle.rules.specs.Step.{refused, new, known, Outcome, only, Vouched}

-- What the leader's seal is over, and what a vote's seal is over.
abbrev pub proposes : Key → Statement
proposes k = record { purpose = purpose.Propose; block = k }

abbrev pub votes_for : Key → Statement
votes_for k = record { purpose = purpose.Vote; block = k }

-- Every signer below number i has a vote seal that the table accepts for the block.
unfoldable pub seals_accepted : Table → Key → Signers → ℕ → Bool
seals_accepted table k s zero = true
seals_accepted table k s (suc i) =
    seals_accepted table k s i && (not (signed s.set i) || table i (votes_for k) (slice_index_or s.seals i []))

-- A certificate of view 0 is the origin's and needs no signer. Any other needs a quorum, each with its seal.
abbrev pub certificate_stands : Table → ℕ → Certificate → Bool
certificate_stands table n c =
    (c.block.view == 0) || (is_quorum n c.signers.set && seals_accepted table c.block c.signers 16)

-- The first ground on which a readable proposal is refused.
unfoldable pub proposal_ground : Table → State → Proposal → Option Refusal
proposal_ground table s p =
    cond (nat_lt s.view p.body.view) (Some ViewAhead)
    (cond (nat_le p.body.view s.ledger.head.view) (Some NotAboveHead)
    (cond (not (table (leader s.seat.n p.body.view) (proposes (body_key p.body)) p.seal)) (Some LeaderSeal)
    (cond (not (certificate_stands table s.seat.n p.certificate)) (Some BadCertificate)
    (cond (not (fits_shelf s (body_key p.body))) (Some ShelfFull) None))))

-- The signers below number i, each vouching for the statement.
unfoldable pub vouchers : Statement → Signers → ℕ → List Vouched
vouchers st s zero = []
vouchers st s (suc i) =
    cond (signed s.set i) (record { signer = i; statement = st } ∷ []) [] ++ vouchers st s i

-- A new proposal gets a slot; its certificate may become the top one, and it the candidate.
unfoldable pub take_up : Proposal → State → Outcome
take_up p s =
    let body : Body = p.body in
    let g : Ledger = with_top p.certificate (placed (fresh body (body_name body)) s.ledger) in
    let t : Settled = settle s.seat.n g in
    let after : State = with_ledger s t.ledger in
    record {
      answer = new;
      state = cond (body.view == s.view) (with_candidate after (body_name body)) after;
      handed = t.handed;
      written = [];
      ballot = None;
      sealed = None;
      shown = Some body;
      relied =
          record { signer = leader s.seat.n body.view; statement = proposes (body_key body) }
          ∷ vouchers (votes_for p.certificate.block) p.certificate.signers 16;
    }

unfoldable pub hear_proposal : Table → State → Proposal → Outcome
hear_proposal table s p =
    elim (proposal_ground table s p) [
      | Some r ↦ only (refused r) s
      | None ↦ cond (is_held (body_key p.body) s.ledger.shelf) (only known s) (take_up p s)
    ]

-- A new vote joins its block's tally.
unfoldable pub count_vote : Vote → State → Outcome
count_vote v s =
    let t : Settled = settle s.seat.n (enter s.seat.n v.block v.voter v.seal s.ledger) in
    record {
      answer = new;
      state = with_ledger s t.ledger;
      handed = t.handed;
      written = [];
      ballot = None;
      sealed = None;
      shown = None;
      relied = record { signer = v.voter; statement = votes_for v.block } ∷ [];
    }

unfoldable pub hear_vote : Table → State → Vote → Outcome
hear_vote table s v =
    elim (held v.block s.ledger.shelf) [
      | None ↦ only (refused NotHeld) s
      | Some b ↦
          cond (not (table v.voter (votes_for v.block) v.seal))
          (only (refused VoterSeal) s)
          (cond (signed b.tally.set v.voter) (only known s) (count_vote v s))
    ]

-- An unreadable message is refused by the reader's own ground.
abbrev pub unread : Unreadable → Refusal
unread unreadable.Mark = Mark
unread unreadable.Length = Length
unread unreadable.Form = Form

unfoldable pub hear_message : Table → State → Message → Outcome
hear_message table s (message.Proposal p) = hear_proposal table s p
hear_message table s (message.Vote v) = hear_vote table s v

unfoldable pub hear : Table → State → List ℕ → Outcome
hear table s bytes =
    cond (not (shelf_fits s))
    (only (refused ShelfSize) s)
    (elim (read s.seat.n bytes) [ Err u ↦ only (refused (unread u)) s | Ok m ↦ hear_message table s m ])
