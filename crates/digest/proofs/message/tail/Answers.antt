use Rattle.std.proofs.Common.{arith}
use Rattle.digest.proofs.Padding.{tail_is}
use Rattle.digest.proofs.message.tail.Goals as goal

pub returns : goal.returns
returns c =
    tail_is c.args.rest.now c.copy_from_slice.new.self c.to_be_bytes.result c.copy_from_slice-2.new.self c.tail_len-end.result c.args.bits
    (omega arith) c.copy_from_slice.ensures.after c.to_be_bytes.ensures c.copy_from_slice-2.ensures.after c.tail_len-end.ensures
