use Rattle.std.proofs.Common.{◌≡◌, ◌++◌, drop, string_bytes}
use Rattle.parts.specs.Fed.{fed}
use Rattle.telling.specs.Tries.{effects_told}
use Rattle.telling.proofs.trial.take_each.Given as goal

abbrev pub invariant-loop-order : goal.invariant-loop-order
invariant-loop-order g l =
    (string_bytes l.text ++ effects_told g.B.Board.rule g.B.Board.effect (g.B.Board.world l.board) (drop l.order-index l.orders) ≡
    string_bytes l.initial.text ++ effects_told g.B.Board.rule g.B.Board.effect (g.B.Board.world l.initial.board) l.orders) ×
    (fed g.B.Board.rule (g.B.Board.world l.board) (drop l.order-index l.orders) ≡
    fed g.B.Board.rule (g.B.Board.world l.initial.board) l.orders)
