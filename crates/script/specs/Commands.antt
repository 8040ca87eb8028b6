-- What the fields of a line say.
use Rattle.std.specs.Prelude.{◌≡◌, ℕ, List, [], ◌∷◌, vec_items, codes, MatchBool, Result, Vec, MatchResult}
use Rattle.std.specs.Str.{bytes_eq}
use Rattle.std.specs.declared.alloc.Global.{Global}
use Rattle.wire.specs.declared.order.Order.{Order}
use Rattle.script.specs.Arguments.{HasBytes, HasKey, HasConsoles}
use Rattle.script.specs.Boards.{HasBoard}
use Rattle.script.specs.declared.command.Command.{Command}
use Rattle.script.specs.declared.command.Command.TheVariants.{Name, Mac, Read, Try}
use Rattle.script.specs.declared.command.NewBoard.{NewBoard}
use Rattle.script.specs.declared.fault.Fault.{Fault}
use Rattle.script.specs.Faults.{Refutes}
use Rattle.script.specs.OrderFields.{HasOrders}

-- the fields after `name`
abbrev pub NameArguments : List (List ℕ) → Command → Type 0
NameArguments fields c = (bytes : Vec ℕ Global) × (c ≡ Name bytes) × HasBytes fields (vec_items bytes) []

-- the fields after `mac`
abbrev pub MacArguments : List (List ℕ) → Command → Type 0
MacArguments fields c = (key : List ℕ) × (bytes : Vec ℕ Global) × (rest : List (List ℕ)) × (c ≡ Mac key bytes) × HasKey fields key rest × HasBytes rest (vec_items bytes) []

-- the fields after `read`
abbrev pub ReadArguments : List (List ℕ) → Command → Type 0
ReadArguments fields c = (n : ℕ) × (bytes : Vec ℕ Global) × (rest : List (List ℕ)) × (c ≡ Read n bytes) × HasConsoles fields n rest × HasBytes rest (vec_items bytes) []

-- the fields after `try`
abbrev pub TryArguments : List (List ℕ) → Command → Type 0
TryArguments fields c = (board : NewBoard) × (orders : Vec Order Global) × (rest : List (List ℕ)) × (c ≡ Try board orders) × HasBoard fields board rest × HasOrders rest (vec_items orders)

-- the fields of a line of this command: its first field, the word, says of what kind it is
abbrev pub Says : List (List ℕ) → Command → Type 0
Says [] c = ⊥
Says (word ∷ fields) c =
    MatchBool (bytes_eq word (codes "name")) (NameArguments fields c)
    (MatchBool (bytes_eq word (codes "mac")) (MacArguments fields c)
    (MatchBool (bytes_eq word (codes "read")) (ReadArguments fields c)
    (MatchBool (bytes_eq word (codes "try")) (TryArguments fields c)
    ⊥)))

-- what reading answers: a command that is said, or a fault that rules every command out
abbrev pub Reads : {C : Type 0} → (C → Type 0) → Result C Fault → Type 0
Reads {C} Said r = MatchResult r Said (λ e. Refutes e ((c : C) × Said c))
