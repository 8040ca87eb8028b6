use Rattle.std.proofs.Common.{◌≡◌, drop}
use Rattle.parts.specs.Fed.{fed}
use Rattle.parts.proofs.board.take_all.Given as goal

abbrev pub invariant-loop-order : goal.invariant-loop-order
invariant-loop-order g l =
    fed g.B.Board.rule (g.B.Board.world l.board) (drop l.order-index l.orders) ≡
    fed g.B.Board.rule (g.B.Board.world l.initial.board) l.orders
