use Rattle.std.proofs.Common.{◌≡◌, ℕ, List, refl, rules, Option, MatchOption}
use Rattle.std.specs.Slice.{IsItemAt}
use denote.Ref.{Bor}
use Rattle.wire.specs.Format.{blank}
use Rattle.wire.specs.Read.{order_in}
use Rattle.wire.proofs.Filling.{made_all}
use Rattle.wire.proofs.Sequences.{placed, placed_is, packed_orders}
use Rattle.wire.proofs.orders.Orders.read.Goals as goal

pub returns : goal.returns
returns c =
    packed_orders c.args.count c.args.bytes.now _ c.requires.few c.from_fn-list.ensures.items.long
    (λ i h. made_all _ _ (placed c.args.count c.args.bytes.now)
    (λ j x q k.
    let looked : (o : Option (Bor (List ℕ))) × IsItemAt c.as_chunks.result.0.now j o × MatchOption o (x ≡ blank) (λ p. x ≡ order_in p.now) = search rules in
    (search rules, placed_is c.args.count c.args.bytes.now c.requires.enough c.as_chunks.result.0.now c.as_chunks.ensures.front c.as_chunks.ensures.front_len j looked.0 x looked.1 looked.2))
    _ 8 c.from_fn-list.ensures.items.each i blank h)
    refl
