-- Counting in 64 bits.
use Rattle.std.specs.Prelude.{ℕ, ◌+◌, ◌-◌, ◌^◌, min}

-- one more, as far as 64 bits go
abbrev pub more : ℕ → ℕ
more n = min (n + 1) (2 ^ 64 - 1)
