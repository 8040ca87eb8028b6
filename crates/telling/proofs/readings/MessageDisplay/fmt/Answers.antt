use Rattle.std.proofs.Common.{codes, decimal}
use Rattle.std.proofs.Output.{has_written_of_eq}
use Rattle.text.specs.Hexadecimal.{hex_written}
use Rattle.telling.specs.Messages.{placed_told, proposal_told, signers_told}
use Rattle.telling.proofs.Reporting.{regrouped}
use Rattle.telling.proofs.readings.MessageDisplay.fmt.Goals as goal

pub returns-in-Proposal-clause-writes : goal.returns-in-Proposal-clause-writes
unfolding proposal_told
returns-in-Proposal-clause-writes g c plain ok =
    let p = c.in-Proposal.value in
    rw (c.in-Proposal.is, ← c.name-name.ensures, ← c.as_slice.ensures.orders)
    (has_written_of_eq _ _ _ _ _
    (regrouped (codes "proposal ") (decimal p.body.view) (codes ", name ") (hex_written c.name-name.result) (codes ", parent ") (decimal p.body.parent.view) (codes " ") (hex_written p.body.parent.name) (codes ", signers")
    (signers_told p.certificate.signers.set) (codes ", body ") (placed_told c.in-Proposal.body) _)
    (c.write.ensures.writes plain ok))
