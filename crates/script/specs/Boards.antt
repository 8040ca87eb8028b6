-- Boards as fields.
use Rattle.std.specs.Prelude.{◌≡◌, ℕ, List, [], ◌∷◌, codes, MatchBool}
use Rattle.std.specs.Str.{bytes_eq}
use Rattle.script.specs.Arguments.{HasShort}
use Rattle.script.specs.declared.command.NewBoard.{NewBoard}
use Rattle.script.specs.declared.command.NewBoard.TheVariants.{Assignment, Tonnage}

-- the fields after `assignment`: lines, limit
abbrev pub HasAssignment : List (List ℕ) → NewBoard → List (List ℕ) → Type 0
HasAssignment before b after = (lines : ℕ) × (limit : ℕ) × (rest : List (List ℕ)) × (b ≡ Assignment lines limit) × HasShort before lines rest × HasShort rest limit after

-- the fields begin with a board
abbrev pub HasBoard : List (List ℕ) → NewBoard → List (List ℕ) → Type 0
HasBoard [] b after = ⊥
HasBoard (word ∷ fields) b after =
    MatchBool (bytes_eq word (codes "assignment")) (HasAssignment fields b after)
    (MatchBool (bytes_eq word (codes "tonnage")) ((b ≡ Tonnage) × (fields ≡ after))
    ⊥)
