use Rattle.std.proofs.Common.{sym, ap, ◌∙◌, rules}
use Rattle.std.proofs.lemmas.List.{take_rest}
use Rattle.wire.specs.Parts.{Opens}
use Rattle.wire.specs.Read.{read_proposal, read_vote}
use Rattle.wire.proofs.Proposals.{read_as_proposal, read_as_vote, read_as_neither}
use Rattle.wire.proofs.reading.read.Goals as goal

pub returns-in-80-clause-message : goal.returns-in-80-clause-message
returns-in-80-clause-message c =
    let o : Opens 80 82 c.args.datagram.now = search rules in
    c.read_proposal.ensures.message ∙
    (ap (read_proposal c.args.n) (take_rest c.args.datagram.now 2) ∙ sym (read_as_proposal c.args.n c.args.datagram.now o))

pub returns-in-86-clause-message : goal.returns-in-86-clause-message
returns-in-86-clause-message c =
    let o : Opens 86 84 c.args.datagram.now = search rules in
    c.read_vote.ensures.message ∙
    (ap (read_vote c.args.n) (take_rest c.args.datagram.now 2) ∙ sym (read_as_vote c.args.n c.args.datagram.now o))

pub returns-in_default-clause-message : goal.returns-in_default-clause-message
returns-in_default-clause-message c =
    let p : Opens 80 82 c.args.datagram.now → ⊥ = search rules in
    let v : Opens 86 84 c.args.datagram.now → ⊥ = search rules in
    sym (read_as_neither c.args.n c.args.datagram.now p v)
