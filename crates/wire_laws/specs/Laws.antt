-- What holds of the format and the reading together.
use Rattle.std.specs.Prelude.{◌≡◌, ℕ, List, Ok}
use Rattle.wire.specs.Bytes.{Octets}
use Rattle.wire.specs.Canon.{BodyFits, KeyFits, WellFormed}
use Rattle.wire.specs.Format.{body_bytes, message_bytes, statement_bytes}
use Rattle.wire.specs.Read.{read}
use Rattle.wire.specs.declared.body.Body.{Body}
use Rattle.wire.specs.declared.message.Message.{Message}
use Rattle.wire.specs.declared.statement.Statement.{Statement}

-- what a message's writer writes reads as that message
abbrev pub WrittenReads : Type 0
WrittenReads = (n : ℕ) (m : Message) → WellFormed n m → read n (message_bytes m) ≡ Ok m

-- bytes that read as a message are what its writer writes
abbrev pub ReadIsWritten : Type 0
ReadIsWritten = (n : ℕ) (bytes : List ℕ) (m : Message) → Octets bytes → read n bytes ≡ Ok m → message_bytes m ≡ bytes

-- a body's bytes determine the body
abbrev pub BodyByBytes : Type 0
BodyByBytes = (a b : Body) → BodyFits a → BodyFits b → body_bytes a ≡ body_bytes b → a ≡ b

-- a statement's bytes determine the statement
abbrev pub StatementByBytes : Type 0
StatementByBytes =
    (a b : Statement) → KeyFits a.block → KeyFits b.block → statement_bytes a ≡ statement_bytes b → a ≡ b
