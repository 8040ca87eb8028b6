use Rattle.wire_laws.proofs.Messages.{body_by_bytes, statement_by_bytes}
use Rattle.wire_laws.proofs.bytes_determine_records.Goals as goal

pub returns : goal.returns
returns c = record { body = body_by_bytes; statement = statement_by_bytes }
