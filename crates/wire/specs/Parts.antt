-- What a reading hands out: the message, and the parts of the bytes heard with their places.
use Rattle.std.specs.Prelude.{◌≡◌, ℕ, ◌+◌, ◌≤◌, true, false, List, length, drop, Ok, Err, Result, slice_index}
use Rattle.wire.specs.Bytes.{number}
use Rattle.wire.specs.Format.{body_bytes}
use Rattle.wire.specs.Read.{body_length, certificate_length, body_part, past_body, certificate_part, seal_part, proposal_fits}
use Rattle.wire.specs.declared.message.Message.{Message}
use Rattle.wire.specs.declared.message.Message.TheVariants as message
use Rattle.wire.specs.declared.reading.Part.{Part}
use Rattle.wire.specs.declared.reading.Reading.{Reading}
use Rattle.wire.specs.declared.reading.Reading.TheVariants as reading
use Rattle.wire.specs.declared.reading.Sizes.{Sizes}
use Rattle.wire.specs.declared.unreadable.Unreadable.{Unreadable}
use Rattle.wire.specs.declared.unreadable.Unreadable.TheVariants.{Length}

-- the message, or the refusal
abbrev pub message_of : Reading → Message
message_of (reading.Proposal body certificate seal value) = message.Proposal value
message_of (reading.Vote seal value) = message.Vote value

abbrev pub outcome : Result Reading Unreadable → Result Message Unreadable
outcome (Ok g) = Ok (message_of g)
outcome (Err e) = Err e

-- these bytes, at this place of the bytes heard
abbrev pub StandsAt : ℕ → List ℕ → Part → Type 0
StandsAt at bytes p = (p.offset ≡ at) × (p.bytes.now ≡ bytes)

-- the parts, of the bytes after the mark; the body's part is what its name is the digest of
abbrev pub PartsOf : List ℕ → Reading → Type 0
PartsOf bytes (reading.Proposal body certificate seal value) =
    StandsAt 2 (body_part bytes) body ×
    StandsAt (2 + body_length bytes) (certificate_part bytes) certificate ×
    StandsAt (2 + body_length bytes + certificate_length (past_body bytes)) (seal_part bytes) seal ×
    (body.bytes.now ≡ body_bytes value.body)
PartsOf bytes (reading.Vote seal value) = StandsAt 39 (drop 37 bytes) seal

-- a message read has its parts
abbrev pub Parted : List ℕ → Result Reading Unreadable → Type 0
Parted bytes (Ok g) = PartsOf bytes g
Parted bytes (Err e) = Unit {0}

-- the lengths of a proposal's body and certificate, if its bytes after the mark fit; else the refusal
abbrev pub Lengths : List ℕ → Result Sizes Unreadable → Type 0
Lengths bytes (Err e) = (e ≡ Length) × (proposal_fits bytes ≡ false)
Lengths bytes (Ok s) =
    (proposal_fits bytes ≡ true) ×
    (s.body ≡ body_length bytes) ×
    (s.certificate ≡ certificate_length (past_body bytes)) ×
    (number 42 1 bytes ≤ 8) ×
    (s.certificate ≤ 296) ×
    (length (past_body bytes) ≡ s.certificate + 16) ×
    (length bytes ≡ s.body + s.certificate + 16)

-- the first two bytes
abbrev pub Opens : ℕ → ℕ → List ℕ → Type 0
Opens first second bytes = (2 ≤ length bytes) × (slice_index bytes 0 ≡ first) × (slice_index bytes 1 ≡ second)
