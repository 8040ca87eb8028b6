-- A text that grows.
use Rattle.std.specs.Prelude.{◌≡◌, List, ℕ, ◌++◌, string_bytes, OnOk, Result, String}
use Rattle.std.specs.declared.alloc.Global.{Global}

-- where the result is Ok, the text grew by these bytes
abbrev pub Adds : {V E : Type 0} → String Global → Result V E → List ℕ → String Global → Type 0
Adds before result told after = OnOk result (string_bytes after ≡ string_bytes before ++ told)
