use Rattle.std.proofs.Common.{sym, ◌∙◌, rules}
use Rattle.wire.proofs.Numbers.{be_4}
use Rattle.wire.proofs.Writing.{puts_as, puts_then}
use Rattle.wire.proofs.key.Key.put.Goals as goal

pub returns : goal.returns
returns c =
    record {
      ends = search rules;
      wrote = puts_then (puts_as (c.to_be_bytes.ensures ∙ sym (be_4 c.args.self.now.view)) c.put.ensures) c.put-2.ensures;
    }
