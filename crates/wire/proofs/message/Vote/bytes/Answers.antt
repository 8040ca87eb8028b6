use Rattle.std.proofs.Common.{◌<◌, sym, ◌∙◌, rules}
use Rattle.wire.specs.Format.{vote_bytes}
use Rattle.wire.proofs.Numbers.{be_1}
use Rattle.wire.proofs.Writing.{filled_by, puts_as, puts_then}
use Rattle.wire.proofs.message.Vote.bytes.Goals as goal

pub returns : goal.returns
unfolding vote_bytes
returns c =
    let t = c.to_be_bytes.type_inv in
    let byte : c.args.self.now.voter < 256 = search rules in
    filled_by
    (puts_then c.put.ensures
    (puts_then c.put-2.ensures.wrote (puts_then (puts_as (c.to_be_bytes.ensures ∙ sym (be_1 _ byte)) c.put-3.ensures) c.put-4.ensures)))
    c.over-writer.ensures.start (search rules) (search rules)
