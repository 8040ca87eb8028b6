use Rattle.std.proofs.Common.{refl}
use Rattle.wire_laws.proofs.Messages.{proposal_165}
use Rattle.wire_laws.proofs.examples_stand.Goals as goal

pub returns : goal.returns
returns c = record { signers = refl; proposal = proposal_165 }
