use Rattle.std.proofs.Common.{vec_items}
use Rattle.pit.proofs.seat.Seat.look.Goals as goal

pub returns : goal.returns
returns c = c.look.ensures (vec_items c.args.self.now.shelf)
