use Rattle.std.proofs.Common.{refl}
use Rattle.script.proofs.command.read_try.Goals as goal

pub returns : goal.returns
returns c = (c.in_ok-board.board, c.in_ok-orders.orders, _, refl, c.in_ok-board.ensures, c.in_ok-orders.ensures)
