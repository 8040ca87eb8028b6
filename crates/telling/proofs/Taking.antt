-- Orders that a board takes, and the text of their effects.
use Rattle.std.proofs.Common.{◌≡◌, ℕ, ◌<◌, ◌≤◌, Bool, true, false, List, [], ◌∷◌, ◌++◌, length, codes, decimal, refl, sym, ap, lit<, le-leb}
use borrow.Author.Tests.{lt-leb}
use Rattle.std.proofs.lemmas.Fmt.{decimal_digit}
use Rattle.wire.specs.Read.{all_well_formed}
use Rattle.wire.specs.declared.order.Order.{Order}
use Rattle.script.specs.declared.command.NewBoard.{NewBoard}
use Rattle.telling.specs.Tries.{effects_told, taken_told, told_effects, trial_told}

module _ {W : Type 0} (rule : W → Order → W) (effect : W → Order → Bool) where
  pub effects_none : (w : W) → told_effects rule effect w [] ≡ codes " -"
  effects_none w = refl

  pub effects_some : (w : W) (os : List Order) → (length os ≡ 0 → ⊥) → told_effects rule effect w os ≡ effects_told rule effect w os
  effects_some w [] some = absurd (some refl)
  effects_some w (o ∷ os) some = refl

-- which orders are refused
-- bad orders, shown by their number
bad_orders : codes " refused 7" ≡ codes " refused " ++ decimal 7
bad_orders = ap (λ (n : List ℕ). codes " refused " ++ n) (sym (decimal_digit 7 (lit< tt)))

pub trial_of_many : (board : NewBoard) (os : List Order) → 8 < length os → trial_told board os ≡ codes " refused " ++ decimal 7
unfolding trial_told
trial_of_many board os many = let above = lt-leb (length os) 8 many in rw above bad_orders

pub trial_of_ill : (board : NewBoard) (os : List Order) → length os ≤ 8 → all_well_formed os ≡ false → trial_told board os ≡ codes " refused " ++ decimal 7
unfolding trial_told
trial_of_ill board os few ill = let below = le-leb (length os) 8 few in rw (below, ill) bad_orders

pub trial_of_fair : (board : NewBoard) (os : List Order) → length os ≤ 8 → all_well_formed os ≡ true → trial_told board os ≡ taken_told board os
unfolding trial_told
trial_of_fair board os few formed = let below = le-leb (length os) 8 few in rw (below, formed)
