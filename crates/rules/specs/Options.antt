-- An option is none or holds one thing.
use Rattle.std.specs.Prelude.{◌≡◌, ℕ, Some, None, Option}
use Rattle.std.proofs.Common.{arith}

module _ {A : Type 0} where
  pub absent : {B : Type 0} (x : A) → ◌≡◌ {A = Option A} None (Some x) → B
  absent x e = absurd (let z : ◌≡◌ {A = ℕ} 0 1 = cc in omega arith)

  pub same_some : (x y : A) → ◌≡◌ {A = Option A} (Some x) (Some y) → x ≡ y
  same_some x y e = cc
