-- The records as bytes: each opens with a mark of two letters.
use Rattle.std.specs.Prelude.{ℕ, zero, suc, ◌-◌, ◌/◌, ◌%◌, ◌^◌, Bool, cond, ◌&&◌, List, [], ◌++◌, length, take, replicate, codes, ◌==◌, nat_le, slice_index_or}
use Rattle.digest.specs.Sha256.{digest}
use Rattle.std.specs.List.{flat_map}
use Rattle.std.specs.Str.{bytes_eq}
use Rattle.wire.specs.Bytes.{be}
use Rattle.wire.specs.declared.body.Body.{Body}
use Rattle.wire.specs.declared.certificate.Certificate.{Certificate}
use Rattle.wire.specs.declared.certificate.Signers.{Signers}
use Rattle.wire.specs.declared.key.Key.{Key}
use Rattle.wire.specs.declared.message.Message.{Message}
use Rattle.wire.specs.declared.message.Message.TheVariants as message
use Rattle.wire.specs.declared.message.Proposal.{Proposal}
use Rattle.wire.specs.declared.message.Vote.{Vote}
use Rattle.wire.specs.declared.order.Order.{Order}
use Rattle.wire.specs.declared.order.Order.TheVariants.{Send, Release, Load}
use Rattle.wire.specs.declared.orders.Orders.{Orders}
use Rattle.wire.specs.declared.statement.Purpose.{Purpose}
use Rattle.wire.specs.declared.statement.Purpose.TheVariants as purpose
use Rattle.wire.specs.declared.statement.Statement.{Statement}

-- mark, truck, place and amount
abbrev pub order_bytes : Order → List ℕ
order_bytes (Send truck place) = codes "SD" ++ (be 2 truck ++ (be 2 place ++ be 2 0))
order_bytes (Release truck) = codes "RL" ++ (be 2 truck ++ (be 2 0 ++ be 2 0))
order_bytes (Load truck place amount) = codes "LD" ++ (be 2 truck ++ (be 2 place ++ be 2 amount))

-- one of the 64 places
abbrev pub place_stands : ℕ → Bool
place_stands place = nat_le 1 place && nat_le place 64

-- the orders that a board is given: a truck, a place and an amount that are there
abbrev pub well_formed : Order → Bool
well_formed (Send truck place) = nat_le 1 truck && place_stands place
well_formed (Release truck) = nat_le 1 truck
well_formed (Load truck place amount) = nat_le 1 truck && (place_stands place && nat_le 1 amount)

-- the orders that a value holds: the first `count` of its list
abbrev pub orders_of : Orders → List Order
orders_of o = take o.count o.list

-- what stands in the spare places of a list of orders
abbrev pub blank : Order
blank = Release 0

-- these orders, at most eight, in the first places
abbrev pub pack : List Order → Orders
pack os = record { list = os ++ replicate (8 - length os) blank; count = length os }

-- view and name
abbrev pub key_bytes : Key → List ℕ
key_bytes k = be 4 k.view ++ k.name

-- the two keys are one
abbrev pub same_key : Key → Key → Bool
same_key a b = a.view == b.view && bytes_eq a.name b.name

-- BD, view, parent view, parent name, the number of orders, the orders
unfoldable pub body_bytes : Body → List ℕ
body_bytes b =
    codes "BD" ++
    (be 4 b.view ++
    (key_bytes b.parent ++ (be 1 (length (orders_of b.orders)) ++ flat_map order_bytes (orders_of b.orders))))

abbrev pub body_name : Body → List ℕ
body_name b = digest (body_bytes b)

-- the key of the block that the body makes
abbrev pub body_key : Body → Key
body_key b = record { view = b.view; name = body_name b }

-- console i is in the set: bit i of it, bit 0 the least, is one
abbrev pub signed : ℕ → ℕ → Bool
signed set i = (set / 2 ^ i % 2) == 1

-- the seals of the signers below number i, by rising number
unfoldable pub packed_below : ℕ → ℕ → List (List ℕ) → List ℕ
packed_below zero set seals = []
packed_below (suc i) set seals = packed_below i set seals ++ cond (signed set i) (slice_index_or seals i []) []

-- the seals of all the signers
abbrev pub packed : Signers → List ℕ
packed s = packed_below 16 s.set s.seals

-- CT, view, name, signers, their vote seals
unfoldable pub certificate_bytes : Certificate → List ℕ
certificate_bytes c =
    codes "CT" ++ (key_bytes c.block ++ (be 2 c.signers.set ++ packed c.signers))

-- PR, body, certificate of the body's parent, seal of the leader
unfoldable pub proposal_bytes : Proposal → List ℕ
proposal_bytes p = codes "PR" ++ (body_bytes p.body ++ (certificate_bytes p.certificate ++ p.seal))

-- VT, view, name, voter, its seal
unfoldable pub vote_bytes : Vote → List ℕ
vote_bytes v = codes "VT" ++ (key_bytes v.block ++ (be 1 v.voter ++ v.seal))

unfoldable pub message_bytes : Message → List ℕ
message_bytes (message.Proposal p) = proposal_bytes p
message_bytes (message.Vote v) = vote_bytes v

-- a statement opens as the message that carries its seal
abbrev pub purpose_mark : Purpose → List ℕ
purpose_mark purpose.Propose = codes "PR"
purpose_mark purpose.Vote = codes "VT"

-- PR or VT, view, name
unfoldable pub statement_bytes : Statement → List ℕ
statement_bytes s = purpose_mark s.purpose ++ key_bytes s.block

-- the block before the first
abbrev pub origin : Key
origin = record { view = 0; name = replicate 32 0 }

-- an absent seal
abbrev pub no_seal : List ℕ
no_seal = replicate 16 0

abbrev pub no_signers : Signers
no_signers = record { set = 0; seals = replicate 16 no_seal }

abbrev pub origin_certificate : Certificate
origin_certificate = record { block = origin; signers = no_signers }
