-- Bytes in a message.
use Rattle.std.specs.Prelude.{ℕ, cond, ◌&&◌, nat_le}

-- a printing character stands for itself, any other byte is shown as `?`
abbrev pub printable : ℕ → ℕ
printable c = cond (nat_le 33 c && nat_le c 126) c 63
