use Rattle.std.proofs.Common.{◌≡◌, [], length, arith}
use Rattle.std.proofs.lemmas.List.{nil_from_length}
use Rattle.std.proofs.lemmas.Bool.Decides.{nat_tests}
use Rattle.parts.proofs.Feeding.{fed_none}
use Rattle.telling.proofs.Growing.{made_any}
use Rattle.telling.proofs.Taking.{effects_none, effects_some}
use Rattle.telling.proofs.trial.write_effects.Goals as goal

pub returns-then-is_empty : goal.returns-then-is_empty
returns-then-is_empty g c =
    let test = c.if-is_empty.ensures in
    let none : c.args.orders.now ≡ [] = nil_from_length c.args.orders.now (grind (arith, nat_tests)) in
    let words = effects_none g.B.Board.rule g.B.Board.effect (g.B.Board.world c.args.board.now) in
    let fed = fed_none g.B.Board.rule (g.B.Board.world c.args.board.now) in
    record { effects = rw (none, words) c.write.ensures.bytes; board = made_any c.write.result _ (rw (none, fed)) }

pub returns-else-is_empty : goal.returns-else-is_empty
returns-else-is_empty g c =
    let test = c.if-is_empty.ensures in
    let some : length c.args.orders.now ≡ 0 → ⊥ = grind (arith, nat_tests) in
    let words = effects_some g.B.Board.rule g.B.Board.effect (g.B.Board.world c.args.board.now) c.args.orders.now some in
    record { effects = rw words c.take_each.ensures.effects; board = c.take_each.ensures.board }
