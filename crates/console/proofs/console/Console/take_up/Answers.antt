use Rattle.console.specs.Seen.{seen}
use Rattle.console.proofs.Doing.{does_take_up}
use Rattle.console.proofs.console.Console.take_up.Goals as goal

pub returns-clause-did : goal.returns-clause-did
returns-clause-did g c =
    let raised = c.raise_top.ensures in
    does_take_up g.B.Board.rule (g.S.Seals.keys c.args.self.now.seals) c.args.named.now.proposal.now c.args.named.now.key
    (seen g.T.Store.kept c.args.self.now c.args.shelf.now) (g.B.Board.world c.args.self.now.board) _ _ _
    c.place.new.shelf _ _ c.args.named.now.named c.place.ensures
    (λ i. record { shelf = c.place.new.shelf; top = raised.top i; head = raised.head i; count = raised.count i })
    c.settle-handed.ensures.number c.settle-handed.ensures.ledger c.settle-handed.ensures.after
    c.candidate_heard-self.ensures
