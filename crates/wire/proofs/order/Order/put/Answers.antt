use Rattle.std.proofs.Common.{sym, ◌∙◌, rules}
use Rattle.wire.proofs.Numbers.{be_2}
use Rattle.wire.proofs.Writing.{puts_as, puts_then}
use Rattle.wire.proofs.order.Order.put.Goals as goal

pub returns : goal.returns
returns c =
    record {
      wrote = puts_as (sym c.fields-fields.ensures)
          (puts_then c.put.ensures
          (puts_then (puts_as (c.to_be_bytes.ensures ∙ sym (be_2 _)) c.put-2.ensures)
          (puts_then (puts_as (c.to_be_bytes-2.ensures ∙ sym (be_2 _)) c.put-3.ensures)
          (puts_as (c.to_be_bytes-3.ensures ∙ sym (be_2 _)) c.put-4.ensures))));
      ends = search rules;
    }
