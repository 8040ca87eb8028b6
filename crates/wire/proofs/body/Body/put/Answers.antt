use Rattle.std.proofs.Common.{◌<◌, List, length, sym, ap, ◌∙◌, arith}
use Rattle.std.specs.List.{flat_map}
use Rattle.wire.specs.Bytes.{be}
use Rattle.wire.specs.Format.{body_bytes, order_bytes}
use Rattle.wire.specs.declared.order.Order.{Order}
use Rattle.wire.proofs.Numbers.{be_1, be_4}
use Rattle.wire.proofs.Writing.{puts_as, puts_then}
use Rattle.wire.proofs.body.Body.put.Goals as goal

pub returns : goal.returns
unfolding body_bytes
returns c =
    let os = c.as_slice-orders.ensures.orders in
    let n = ap length os in
    let few : length c.as_slice-orders.result.now < 256 = omega (arith, c.as_slice-orders.ensures.few) in
    record {
      ends = omega arith;
      wrote = puts_then c.put.ensures
          (puts_then (puts_as (c.to_be_bytes.ensures ∙ sym (be_4 c.args.self.now.view)) c.put-2.ensures)
          (puts_then c.put-3.ensures.wrote
          (puts_then (puts_as (sym (be_1 (length c.as_slice-orders.result.now) few) ∙ ap (λ (l : List Order). be 1 (length l)) os) c.put-4.ensures)
          (puts_as (ap (flat_map order_bytes) os) c.put_orders.ensures.wrote))));
    }
