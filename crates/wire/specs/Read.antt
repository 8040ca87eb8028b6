-- The reading of a datagram in a pit of n consoles: the first ground that refuses it, else its message.
use Rattle.std.specs.Prelude.{ℕ, zero, suc, ◌+◌, ◌*◌, ◌%◌, ◌^◌, Bool, cond, not, ◌&&◌, ◌||◌, List, [], ◌∷◌, map, length, take, drop, Ok, Err, codes, Result, ◌==◌, count_ones, nat_le, nat_lt}
use Rattle.std.specs.List.{range_with_len, list_all}
use Rattle.std.specs.Str.{bytes_eq}
use Rattle.wire.specs.Bytes.{field, number}
use Rattle.wire.specs.Format.{well_formed, blank, pack, orders_of, origin, same_key, signed, no_seal}
use Rattle.wire.specs.declared.body.Body.{Body}
use Rattle.wire.specs.declared.certificate.Certificate.{Certificate}
use Rattle.wire.specs.declared.key.Key.{Key}
use Rattle.wire.specs.declared.message.Message.{Message}
use Rattle.wire.specs.declared.message.Message.TheVariants as message
use Rattle.wire.specs.declared.message.Proposal.{Proposal}
use Rattle.wire.specs.declared.message.Vote.{Vote}
use Rattle.wire.specs.declared.order.Fields.{Fields}
use Rattle.wire.specs.declared.order.Order.{Order}
use Rattle.wire.specs.declared.order.Order.TheVariants.{Send, Release, Load}
use Rattle.wire.specs.declared.unreadable.Unreadable.{Unreadable}
use Rattle.wire.specs.declared.unreadable.Unreadable.TheVariants.{Mark, Length, Form}

-- the refusal's number
abbrev pub code : Unreadable → ℕ
code Mark = 8
code Length = 9
code Form = 10

-- the bytes open with this mark
abbrev pub marked : List ℕ → List ℕ → Bool
marked mark bytes = bytes_eq (take 2 bytes) mark

-- The values in the bytes of each record, whatever these are.

-- view and name
abbrev pub key_at : ℕ → List ℕ → Key
key_at at bytes = record { view = number at 4 bytes; name = field (at + 4) 32 bytes }

-- the mark and the numbers of an order
abbrev pub fields_in : List ℕ → Fields
fields_in bytes =
    record { mark = take 2 bytes; truck = number 2 2 bytes; place = number 4 2 bytes; amount = number 6 2 bytes }

-- a field that the order's kind does not use has to be 0: else, and under another mark, the order is blank, so ill-formed
abbrev pub order_of : Fields → Order
order_of f =
    cond (bytes_eq f.mark (codes "SD") && f.amount == 0) (Send f.truck f.place)
    (cond (bytes_eq f.mark (codes "RL") && (f.place == 0 && f.amount == 0))
    (Release f.truck)
    (cond (bytes_eq f.mark (codes "LD")) (Load f.truck f.place f.amount) blank))

unfoldable pub order_in : List ℕ → Order
order_in bytes = order_of (fields_in bytes)

-- k orders, one after another
unfoldable pub orders_in : ℕ → List ℕ → List Order
orders_in zero bytes = []
orders_in (suc k) bytes = order_in (take 8 bytes) ∷ orders_in k (drop 8 bytes)

unfoldable pub body_in : List ℕ → Body
body_in bytes =
    record { view = number 2 4 bytes; parent = key_at 6 bytes; orders = pack (orders_in (number 42 1 bytes) (drop 43 bytes)) }

-- signer i's seal stands after those of the signers below i; the other seals are zeros
abbrev pub seal_in : ℕ → List ℕ → ℕ → List ℕ
seal_in set bytes i = cond (signed set i) (field (16 * count_ones (set % 2 ^ i)) 16 bytes) no_seal

unfoldable pub seals_in : ℕ → List ℕ → List (List ℕ)
seals_in set bytes = map (seal_in set bytes) (range_with_len 0 16)

unfoldable pub certificate_in : List ℕ → Certificate
certificate_in bytes =
    record {
      block = key_at 2 bytes;
      signers = record { set = number 38 2 bytes; seals = seals_in (number 38 2 bytes) (drop 40 bytes) };
    }

-- After the mark of a proposal: the body, then the certificate, then the seal.

-- the length of the body that the bytes open with, by its number of orders
abbrev pub body_length : List ℕ → ℕ
body_length bytes = 43 + 8 * number 42 1 bytes

-- the length of the certificate that the bytes open with, by its number of signers
abbrev pub certificate_length : List ℕ → ℕ
certificate_length bytes = 40 + 16 * count_ones (number 38 2 bytes)

abbrev pub body_part : List ℕ → List ℕ
body_part bytes = take (body_length bytes) bytes

abbrev pub past_body : List ℕ → List ℕ
past_body bytes = drop (body_length bytes) bytes

abbrev pub certificate_part : List ℕ → List ℕ
certificate_part bytes = take (certificate_length (past_body bytes)) (past_body bytes)

abbrev pub seal_part : List ℕ → List ℕ
seal_part bytes = drop (certificate_length (past_body bytes)) (past_body bytes)

unfoldable pub proposal_in : List ℕ → Proposal
proposal_in bytes =
    record {
      body = body_in (body_part bytes);
      certificate = certificate_in (certificate_part bytes);
      seal = seal_part bytes;
    }

-- the length is what the orders, at most eight, and the signers give
unfoldable pub proposal_fits : List ℕ → Bool
proposal_fits bytes =
    nat_le 43 (length bytes) &&
    (nat_le (number 42 1 bytes) 8 &&
    (nat_le 40 (length (past_body bytes)) && length (past_body bytes) == certificate_length (past_body bytes) + 16))

-- After the mark of a vote: view and name, the voter, its seal.
unfoldable pub vote_in : List ℕ → Vote
vote_in bytes = record { block = key_at 0 bytes; voter = number 36 1 bytes; seal = drop 37 bytes }

-- 55 with the mark
abbrev pub vote_fits : List ℕ → Bool
vote_fits bytes = length bytes == 53

-- What is asked of the values.

unfoldable pub all_well_formed : List Order → Bool
all_well_formed os = list_all well_formed os

-- the view is above the parent's, so it is not 0
abbrev pub body_stands : Body → Bool
body_stands b = all_well_formed (orders_of b.orders) && nat_lt b.parent.view b.view

-- signers are below n; a block of view 0 is the origin, which has none
abbrev pub certificate_stands : ℕ → Certificate → Bool
certificate_stands n c =
    nat_lt c.signers.set (2 ^ n) &&
    (not (c.block.view == 0) || (same_key c.block origin && c.signers.set == 0))

-- the certificate is the parent's
unfoldable pub proposal_stands : ℕ → Proposal → Bool
proposal_stands n p =
    body_stands p.body &&
    (certificate_stands n p.certificate && same_key p.certificate.block p.body.parent)

-- a view of 1 or more, a voter below n
abbrev pub vote_stands : ℕ → Vote → Bool
vote_stands n v = nat_le 1 v.block.view && nat_lt v.voter n

-- the inner marks of a proposal
abbrev pub inner_marks : List ℕ → Bool
inner_marks bytes = marked (codes "BD") (body_part bytes) && marked (codes "CT") (certificate_part bytes)

-- the message, if the bytes fit and are well-formed
abbrev pub judged : Bool → Bool → Message → Result Message Unreadable
judged fits formed m = cond fits (cond formed (Ok m) (Err Form)) (Err Length)

-- the bytes after a proposal's mark
unfoldable pub read_proposal : ℕ → List ℕ → Result Message Unreadable
read_proposal n bytes =
    judged (proposal_fits bytes) (inner_marks bytes && proposal_stands n (proposal_in bytes)) (message.Proposal (proposal_in bytes))

-- the bytes after a vote's mark
unfoldable pub read_vote : ℕ → List ℕ → Result Message Unreadable
read_vote n bytes = judged (vote_fits bytes) (vote_stands n (vote_in bytes)) (message.Vote (vote_in bytes))

unfoldable pub read : ℕ → List ℕ → Result Message Unreadable
read n bytes =
    cond (marked (codes "PR") bytes) (read_proposal n (drop 2 bytes))
    (cond (marked (codes "VT") bytes) (read_vote n (drop 2 bytes)) (Err Mark))
