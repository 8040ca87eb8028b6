-- Bytes in hexadecimal, as the standards publish them.
use Rattle.std.specs.Prelude.{◌≡◌, ℕ, List, ◌++◌}
use Rattle.text.specs.Hexadecimal.{hex_pairs}

-- the digits of what came begin with the published ones: a tag may be published in part
abbrev pub Published : List ℕ → List ℕ → Type 0
Published came digits = (rest : List ℕ) × (hex_pairs came ≡ digits ++ rest)
