use Rattle.console.specs.Seen.{seen}
use Rattle.console.proofs.Doing.{does_count}
use Rattle.console.proofs.console.Console.count_vote.Goals as goal

pub returns-clause-did : goal.returns-clause-did
returns-clause-did g c =
    does_count g.B.Board.rule (g.S.Seals.keys c.args.self.now.seals) c.args.vote.now
    (seen g.T.Store.kept c.args.self.now c.args.shelf.now) (g.B.Board.world c.args.self.now.board) _ _ _ _
    c.requires c.enter.ensures c.settle-handed.ensures.number c.settle-handed.ensures.ledger c.settle-handed.ensures.after
