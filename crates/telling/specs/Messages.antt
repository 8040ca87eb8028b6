-- What is said of a datagram.
use Rattle.std.specs.Prelude.{ℕ, ◌+◌, List, [], ◌∷◌, ◌++◌, map, length, drop, Ok, Err, codes, decimal, Result}
use Rattle.text.specs.Hexadecimal.{hex_written}
use Rattle.wire.specs.Format.{body_name, orders_of, signed}
use Rattle.wire.specs.Read.{body_length, body_part, certificate_length, certificate_part, code, past_body, read, seal_part}
use Rattle.wire.specs.declared.message.Message.{Message}
use Rattle.wire.specs.declared.message.Message.TheVariants as message
use Rattle.wire.specs.declared.message.Proposal.{Proposal}
use Rattle.wire.specs.declared.message.Vote.{Vote}
use Rattle.wire.specs.declared.order.Order.{Order}
use Rattle.wire.specs.declared.order.Order.TheVariants.{Send, Release, Load}
use Rattle.wire.specs.declared.reading.Part.{Part}
use Rattle.wire.specs.declared.reading.Reading.{Reading}
use Rattle.wire.specs.declared.reading.Reading.TheVariants as reading
use Rattle.wire.specs.declared.unreadable.Unreadable.{Unreadable}
use Rattle.telling.specs.Lists.{led, or_dash, passing}

abbrev pub order_told : Order → List ℕ
order_told (Send truck place) = codes "SD " ++ (decimal truck ++ (codes " " ++ decimal place))
order_told (Release truck) = codes "RL " ++ decimal truck
order_told (Load truck place amount) = codes "LD " ++ (decimal truck ++ (codes " " ++ (decimal place ++ (codes " " ++ decimal amount))))

abbrev pub orders_told : List Order → List ℕ
orders_told [] = codes "-"
orders_told (first ∷ rest) = order_told first ++ led (codes ", ") (map order_told rest)

-- the consoles of a set, by rising number
abbrev pub consoles : ℕ → List ℕ
consoles set = passing (signed set) 0 16

abbrev pub signers_told : ℕ → List ℕ
signers_told set = led (codes " ") (or_dash (map decimal (consoles set)))

-- a part as offset+length
abbrev pub part_told : ℕ → ℕ → List ℕ
part_told offset long = decimal offset ++ (codes "+" ++ decimal long)

-- a proposal, and the places of its three parts
unfoldable pub proposal_told : Proposal → List ℕ → List ℕ → List ℕ → List ℕ
proposal_told p body certificate seal =
    codes "proposal " ++
    (decimal p.body.view ++
    (codes ", name " ++
    (hex_written (body_name p.body) ++
    (codes ", parent " ++
    (decimal p.body.parent.view ++
    (codes " " ++
    (hex_written p.body.parent.name ++
    (codes ", signers" ++
    (signers_told p.certificate.signers.set ++
    (codes ", body " ++
    (body ++
    (codes ", certificate " ++
    (certificate ++
    (codes ", seal " ++
    (seal ++
    (codes ", orders " ++
    orders_told (orders_of p.body.orders)))))))))))))))))

-- a vote, and the place of its seal
abbrev pub vote_told : Vote → List ℕ → List ℕ
vote_told v seal =
    codes "vote " ++
    (decimal v.block.view ++
    (codes ", name " ++ (hex_written v.block.name ++ (codes ", voter " ++ (decimal v.voter ++ (codes ", seal " ++ seal))))))

-- a part and a message as a reading hands them out
abbrev pub placed_told : Part → List ℕ
placed_told part = part_told part.offset (length part.bytes.now)

abbrev pub message_told : Reading → List ℕ
message_told (reading.Proposal body certificate seal p) = proposal_told p (placed_told body) (placed_told certificate) (placed_told seal)
message_told (reading.Vote seal v) = vote_told v (placed_told seal)

-- what was read, from the bytes after the mark
abbrev pub outcome_told : List ℕ → Result Message Unreadable → List ℕ
outcome_told bytes (Ok (message.Proposal p)) =
    proposal_told p
    (part_told 2 (length (body_part bytes)))
    (part_told (2 + body_length bytes) (length (certificate_part bytes)))
    (part_told (2 + body_length bytes + certificate_length (past_body bytes)) (length (seal_part bytes)))
outcome_told bytes (Ok (message.Vote v)) = vote_told v (part_told 39 (length (drop 37 bytes)))
outcome_told bytes (Err refusal) = codes "refused " ++ decimal (code refusal)

-- the reading of a datagram in a pit of n consoles
unfoldable pub reading_told : ℕ → List ℕ → List ℕ
reading_told n datagram = outcome_told (drop 2 datagram) (read n datagram)
