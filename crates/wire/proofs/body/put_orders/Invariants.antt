use Rattle.std.proofs.Common.{◌≡◌, ◌+◌, ◌*◌, take}
use Rattle.std.specs.List.{flat_map}
use Rattle.wire.specs.Format.{order_bytes}
use Rattle.wire.specs.Written.{Puts}
use Rattle.wire.proofs.body.put_orders.Given as goal

abbrev pub invariant-loop-order : goal.invariant-loop-order
invariant-loop-order l =
    (l.out.at ≡ l.initial.out.at + 8 * l.order-index) ×
    Puts (flat_map order_bytes (take l.order-index l.orders)) l.initial.out l.out
