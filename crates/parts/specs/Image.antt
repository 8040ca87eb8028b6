-- The store as an image of 14 bytes: ST, lock, voted, proposed.
use Rattle.std.specs.Prelude.{◌≡◌, ℕ, cond, List, [], ◌∷◌, ◌++◌, take, codes}
use Rattle.std.specs.Str.{bytes_eq}
use Rattle.wire.specs.Bytes.{be, number}
use Rattle.parts.specs.declared.store.Marks.{Marks}

abbrev pub no_marks : Marks
no_marks = record { lock = 0; voted = 0; proposed = 0 }

abbrev pub image : Marks → List ℕ
image m = codes "ST" ++ (be 4 m.lock ++ (be 4 m.voted ++ be 4 m.proposed))

-- an image that does not begin with ST means three zeros
abbrev pub marks_in : List ℕ → Marks
marks_in bytes =
    cond
    (bytes_eq (take 2 bytes) (codes "ST"))
    (record { lock = number 2 4 bytes; voted = number 6 4 bytes; proposed = number 10 4 bytes })
    no_marks

-- lock 5, voted 6, proposed 4
abbrev pub example_marks : Marks
example_marks = record { lock = 5; voted = 6; proposed = 4 }

abbrev pub example_bytes : List ℕ
example_bytes =
    0x53 ∷ 0x54 ∷ 0 ∷ 0 ∷ 0 ∷ 5 ∷ 0 ∷ 0 ∷ 0 ∷ 6 ∷ 0 ∷ 0 ∷ 0 ∷ 4 ∷ []

abbrev pub ImageExample : Type 0
ImageExample = (image example_marks ≡ example_bytes) × (marks_in example_bytes ≡ example_marks)
