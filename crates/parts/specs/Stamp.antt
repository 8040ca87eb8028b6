-- The open stamp, for the bench: it hides nothing and anybody can make it.
use Rattle.std.specs.Prelude.{◌≡◌, ℕ, Bool, true, List, ◌++◌, take}
use Rattle.std.specs.Str.{bytes_eq}
use Rattle.wire.specs.Bytes.{be}
use Rattle.wire.specs.Format.{purpose_mark}
use Rattle.wire.specs.declared.statement.Statement.{Statement}

-- mark, view, signer, the first 9 bytes of the name
unfoldable pub stamp : ℕ → Statement → List ℕ
stamp signer s = purpose_mark s.purpose ++ (be 4 s.block.view ++ (be 1 signer ++ take 9 s.block.name))

abbrev pub stamp_table : ℕ → Statement → List ℕ → Bool
stamp_table signer statement seal = bytes_eq seal (stamp signer statement)

-- a seal is accepted exactly if it is the stamp
abbrev pub StampLaw : Type 0
StampLaw =
    (signer : ℕ) (statement : Statement) (seal : List ℕ) →
    (stamp_table signer statement seal ≡ true → seal ≡ stamp signer statement) ×
    (seal ≡ stamp signer statement → stamp_table signer statement seal ≡ true)
