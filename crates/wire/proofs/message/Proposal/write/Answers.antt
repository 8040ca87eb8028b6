use Rattle.std.proofs.Common.{rules}
use Rattle.wire.specs.Format.{proposal_bytes}
use Rattle.wire.proofs.Writing.{written_by, puts_then}
use Rattle.wire.proofs.message.Proposal.write.Goals as goal

pub returns : goal.returns
unfolding proposal_bytes
returns c =
    written_by
    (puts_then c.put.ensures (puts_then c.put-2.ensures.wrote (puts_then c.put-3.ensures.wrote c.put-4.ensures)))
    c.over-writer.ensures.start c.over-writer.ensures.bytes c.len.ensures (search rules)
