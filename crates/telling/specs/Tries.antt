-- What a new board makes of orders.
use Rattle.std.specs.Prelude.{ℕ, Bool, cond, ◌&&◌, List, [], ◌∷◌, ◌++◌, length, replicate, None, codes, nat_le}
use Rattle.wire.specs.Read.{all_well_formed}
use Rattle.wire.specs.declared.order.Order.{Order}
use Rattle.parts.specs.Fed.{fed}
use Rattle.boards.specs.Bounds.{no_loads}
use Rattle.boards.specs.Tally.{counts, tallied}
use Rattle.boards.specs.Trucks.{Roster, assigned, effective}
use Rattle.script.specs.declared.command.NewBoard.{NewBoard}
use Rattle.script.specs.declared.command.NewBoard.TheVariants.{Assignment, Tonnage}
use Rattle.telling.specs.Shown.{assignment_told, tonnage_told}

abbrev pub effect_told : Bool → List ℕ
effect_told effect = cond effect (codes " yes") (codes " no")

-- whether each order has an effect, taken one after another
unfoldable pub effects_told : {W : Type 0} → (W → Order → W) → (W → Order → Bool) → W → List Order → List ℕ
effects_told rule effect w [] = []
effects_told rule effect w (o ∷ os) = effect_told (effect w o) ++ effects_told rule effect (rule w o) os

-- the same, with `-` for no orders
abbrev pub told_effects : {W : Type 0} → (W → Order → W) → (W → Order → Bool) → W → List Order → List ℕ
told_effects rule effect w [] = codes " -"
told_effects rule effect w (o ∷ os) = effects_told rule effect w (o ∷ os)

-- an assignment board with no truck on it
abbrev pub no_trucks : ℕ → ℕ → Roster
no_trucks lines limit = record { limit = limit; lines = replicate lines None }

-- a new board of each kind: the effects of the orders, and the board after all of them
abbrev pub taken_told : NewBoard → List Order → List ℕ
taken_told (Assignment lines limit) orders =
    told_effects assigned effective (no_trucks lines limit) orders ++
    (codes "; " ++ assignment_told (fed assigned (no_trucks lines limit) orders).lines)
taken_told Tonnage orders =
    told_effects tallied counts (replicate 64 no_loads) orders ++
    (codes "; " ++ tonnage_told (fed tallied (replicate 64 no_loads) orders))

-- more than eight orders, or an ill-formed one, are refused
unfoldable pub trial_told : NewBoard → List Order → List ℕ
trial_told board orders =
    cond (nat_le (length orders) 8 && all_well_formed orders) (taken_told board orders) (codes " refused 7")
