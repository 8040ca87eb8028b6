use Rattle.std.proofs.Common.{string_bytes}
use Rattle.pit.proofs.Entering.{played}
use Rattle.pit.proofs.seat.Seat.play.Goals as goal

pub returns : goal.returns
returns c =
    played c.write-told.result c.args.self.now c.enter-reply.new.self c.keep.new.self c.args.request c.args.out.now
    c.enter-reply.new.out c.enter-reply.result (string_bytes c.args.text.now) (string_bytes c.write-told.new.self)
    c.enter-reply.ensures.advances c.enter-reply.ensures.keys c.keep.ensures.console c.keep.ensures.shelf
    c.write-told.ensures.bytes
