use Rattle.std.proofs.Common.{sym, ap, ◌∙◌, rules}
use Rattle.wire.specs.declared.statement.Statement.{Statement}
use Rattle.console.specs.Seen.{seen}
use Rattle.console.proofs.Doing.{does_propose, or_as}
use Rattle.console.proofs.console.Console.propose_body.Goals as goal

pub returns-clause-did : goal.returns-clause-did
returns-clause-did g c =
    let keys = g.S.Seals.keys c.args.self.now.seals in
    let seal = c.seal.result in (
      seal,
      does_propose g.B.Board.rule keys c.args.body.now c.args.key.now seal
          (seen g.T.Store.kept c.args.self.now c.args.shelf.now) (g.B.Board.world c.args.self.now.board) _
          c.args.out.now _ c.top.result _ _ _ c.place_if_new.new.shelf _
          c.requires.key (ap (λ (x : Statement). keys.table keys.own x seal) (sym c.proposes.ensures) ∙ c.seal.ensures) (search rules) c.top.ensures c.write_proposal-length.ensures.length c.write_proposal-length.ensures.output
          c.place_if_new.ensures c.settle-handed.ensures.number c.settle-handed.ensures.ledger c.settle-handed.ensures.after
          (c.or-self.ensures ∙ or_as _ _),
    )
