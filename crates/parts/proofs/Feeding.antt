-- Orders taken one after the other: the loop over a list of them.
use Rattle.std.proofs.Common.{◌≡◌, ℕ, ◌+◌, ◌<◌, ◌≤◌, List, [], ◌∷◌, length, get_or, drop, refl, ◌∙◌}
use Rattle.std.proofs.lemmas.List.{at_drop_more, at_drop_all}
use Rattle.wire.specs.declared.order.Order.{Order}
use Rattle.parts.specs.Fed.{fed}

pub fed_none : {W : Type 0} (rule : W → Order → W) (w : W) → fed rule w [] ≡ w
unfolding fed
fed_none rule w = refl

pub fed_one :
    {W : Type 0} (rule : W → Order → W) (w : W) (o : Order) (os : List Order) →
    fed rule w (o ∷ os) ≡ fed rule (rule w o) os
unfolding fed
fed_one rule w o os = refl

pub fed_more :
    {W : Type 0} (rule : W → Order → W) (w v : W) (os : List Order) (i : ℕ) (o : Order) →
    i < length os → v ≡ rule w (get_or os i o) → fed rule v (drop (i + 1) os) ≡ fed rule w (drop i os)
fed_more rule w v os i o l e =
    let d = at_drop_more (fed rule w) os i o l in
    let f = fed_one rule w (get_or os i o) (drop (i + 1) os) in
    cc

pub fed-all :
    {W : Type 0} (rule : W → Order → W) (w : W) (os : List Order) (i : ℕ) →
    length os ≤ i → fed rule w (drop i os) ≡ w
fed-all rule w os i l = at_drop_all (fed rule w) os i l ∙ fed_none rule w
