-- Worked examples.
use Rattle.std.specs.Prelude.{◌≡◌, [], ◌∷◌, length, filter, count_ones}
use Rattle.wire.specs.Canon.{ProposalFits}
use Rattle.wire.specs.Format.{orders_of, proposal_bytes, signed}
use Rattle.wire.specs.declared.message.Proposal.{Proposal}
use Rattle.std.specs.List.{range_with_len}

-- the signers 000B, in hexadecimal, are the consoles 0, 1 and 3
abbrev pub Signers000B : Type 0
Signers000B = filter (signed 0x000b) (range_with_len 0 16) ≡ 0 ∷ 1 ∷ 3 ∷ []

-- two orders and three signers make a proposal of 165 bytes
abbrev pub Proposal165 : Type 0
Proposal165 =
    (p : Proposal) → ProposalFits p → length (orders_of p.body.orders) ≡ 2 → count_ones p.certificate.signers.set ≡ 3 →
    length (proposal_bytes p) ≡ 165
