use Rattle.wire_laws.proofs.Messages.{message_forth, message_back}
use Rattle.wire_laws.proofs.bytes_and_messages_match.Goals as goal

pub returns : goal.returns
returns c = record { reads = message_forth; written = message_back }
