-- The values that a message may hold: what each field of the bytes has room for.
use Rattle.std.specs.Prelude.{◌≡◌, ℕ, ◌^◌, ◌<◌, ◌≤◌, true, false, [], length, slice_index_or}
use Rattle.std.specs.List.{AllByRecursion}
use Rattle.wire.specs.Format.{orders_of, pack, signed, no_seal}
use Rattle.wire.specs.Read.{proposal_stands, vote_stands}
use Rattle.wire.specs.declared.body.Body.{Body}
use Rattle.wire.specs.declared.certificate.Certificate.{Certificate}
use Rattle.wire.specs.declared.key.Key.{Key}
use Rattle.wire.specs.declared.message.Message.{Message}
use Rattle.wire.specs.declared.message.Message.TheVariants as message
use Rattle.wire.specs.declared.message.Proposal.{Proposal}
use Rattle.wire.specs.declared.message.Vote.{Vote}
use Rattle.wire.specs.declared.order.Order.{Order}
use Rattle.wire.specs.declared.order.Order.TheVariants.{Send, Release, Load}

-- numbers of two bytes
abbrev pub OrderFits : Order → Type 0
OrderFits (Send truck place) = (truck < 2 ^ 16) × (place < 2 ^ 16)
OrderFits (Release truck) = truck < 2 ^ 16
OrderFits (Load truck place amount) = (truck < 2 ^ 16) × (place < 2 ^ 16) × (amount < 2 ^ 16)

-- a view of four bytes, a name of 32
pub record KeyFits (k : Key) : Type 0 where
  pub view : k.view < 2 ^ 32
  pub name : length k.name ≡ 32

-- at most eight orders, in the first places
pub record BodyFits (b : Body) : Type 0 where
  pub view : b.view < 2 ^ 32
  pub parent : KeyFits b.parent
  pub packed : b.orders ≡ pack (orders_of b.orders)
  pub few : length (orders_of b.orders) ≤ 8
  pub orders : AllByRecursion OrderFits (orders_of b.orders)

-- sixteen seals of 16 bytes, zeros but for the signers
pub record CertificateFits (c : Certificate) : Type 0 where
  pub block : KeyFits c.block
  pub set : c.signers.set < 2 ^ 16
  pub sixteen : length c.signers.seals ≡ 16
  pub seals : (i : ℕ) → i < 16 → length (slice_index_or c.signers.seals i []) ≡ 16
  pub absent : (i : ℕ) → i < 16 → signed c.signers.set i ≡ false → slice_index_or c.signers.seals i [] ≡ no_seal

pub record ProposalFits (p : Proposal) : Type 0 where
  pub body : BodyFits p.body
  pub certificate : CertificateFits p.certificate
  pub seal : length p.seal ≡ 16

pub record VoteFits (v : Vote) : Type 0 where
  pub block : KeyFits v.block
  pub voter : v.voter < 2 ^ 8
  pub seal : length v.seal ≡ 16

-- a message that a pit of n consoles may send
abbrev pub WellFormed : ℕ → Message → Type 0
WellFormed n (message.Proposal p) = ProposalFits p × (proposal_stands n p ≡ true)
WellFormed n (message.Vote v) = VoteFits v × (vote_stands n v ≡ true)
