use Rattle.std.proofs.Common.{arith}
use Rattle.wire.specs.Read.{proposal_stands}
use Rattle.wire.proofs.message.Proposal.stands.Goals as goal

pub returns-then-stands-2 : goal.returns-then-stands-2
unfolding proposal_stands
returns-then-stands-2 c = grind arith

pub returns-else-stands-2 : goal.returns-else-stands-2
unfolding proposal_stands
returns-else-stands-2 c = grind arith
