-- When a permit is granted.
use Rattle.std.specs.Prelude.{◌≡◌, ℕ, cond, not, Some, None, Ok, Err, Option, Result, nat_lt}
use Rattle.rules.specs.Pit.{pit_size}
use Rattle.rules.specs.declared.refusal.Refusal.{Refusal}
use Rattle.rules.specs.declared.refusal.Refusal.TheVariants.{PitSize, OwnNumber}
use Rattle.console.specs.declared.permit.Permit.{Permit}

-- The first ground on which a permit is refused.
abbrev pub permit_ground : ℕ → ℕ → Option Refusal
permit_ground n own = cond (not (pit_size n)) (Some PitSize) (cond (not (nat_lt own n)) (Some OwnNumber) None)

-- The answer is that ground, or a permit for these numbers if there is none.
abbrev pub Granted : ℕ → ℕ → Result Permit Refusal → Type 0
Granted n own (Ok p) = (permit_ground n own ≡ None) × (p.n ≡ n) × (p.own ≡ own)
Granted n own (Err e) = permit_ground n own ≡ Some e
