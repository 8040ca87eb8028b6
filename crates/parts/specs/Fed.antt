-- Orders taken one after the other.
use Rattle.std.specs.Prelude.{List, [], ◌∷◌}
use Rattle.wire.specs.declared.order.Order.{Order}

-- the state after these orders, the first one first
unfoldable pub fed : {W : Type 0} → (W → Order → W) → W → List Order → W
fed rule w [] = w
fed rule w (o ∷ os) = fed rule (rule w o) os
