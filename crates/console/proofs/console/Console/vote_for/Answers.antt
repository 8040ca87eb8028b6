use Rattle.std.proofs.Common.{◌<◌, cond, ltb, sym, ap, ◌∙◌, arith}
use Rattle.rules.specs.Hear.{votes_for}
use Rattle.rules.specs.Settle.{enter}
use Rattle.wire.specs.declared.key.Key.{Key}
use Rattle.wire.specs.declared.message.Vote.{Vote}
use Rattle.console.specs.Seen.{seen}
use Rattle.console.proofs.Doing.{does_vote}
use Rattle.console.proofs.console.Console.vote_for.Goals as goal

pub returns-clause-did : goal.returns-clause-did
returns-clause-did g c =
    let low : c.args.self.now.permit.own < 16 = omega (arith, c.args.self.now.permit.low, c.args.self.now.permit.most) in
    let keys = g.S.Seals.keys c.args.self.now.seals in
    let s = seen g.T.Store.kept c.args.self.now c.args.shelf.now in
    let v = c.cast-vote.result.vote in
    let key = c.record_vote-slip.ensures.slip ∙ c.key-key.ensures in (
      v.seal,
      does_vote g.B.Board.rule keys c.args.block.now s (g.B.Board.world c.args.self.now.board) _ _ v _ _ _
          low (c.cast-vote.ensures.block ∙ key) c.cast-vote.ensures.voter
          (sym (ap (λ (x : Key). keys.table keys.own (votes_for x) v.seal) key) ∙ c.cast-vote.ensures.accepted)
          c.cast-vote.ensures.sixteen
          c.record_vote-slip.ensures.saved
          (c.enter.ensures ∙ ap (λ (x : Vote). cond (ltb x.voter 16) (enter s.seat.n x.block x.voter x.seal s.ledger) s.ledger) c.vote.ensures)
          c.settle-handed.ensures.number c.settle-handed.ensures.ledger
          c.settle-handed.ensures.after,
    )
