-- What seals mean.
use Rattle.std.specs.Prelude.{ℕ, Bool, List}
use Rattle.wire.specs.declared.statement.Statement.{Statement}

-- the number that is sealed under, and whether a signer's seal of a statement is accepted
pub record Keys : Type 0 where
  pub own : ℕ
  pub table : ℕ → Statement → List ℕ → Bool
