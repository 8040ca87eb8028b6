-- What the fields of a line say.
use Rattle.std.specs.Prelude.{◌≡◌, ℕ, List, [], ◌∷◌, vec_items, codes, Bool, ◌||◌, MatchBool, Vec}
use Rattle.std.specs.Str.{bytes_eq}
use Rattle.std.specs.declared.alloc.Global.{Global}
use Rattle.wire.specs.declared.order.Order.{Order}
use Rattle.script.specs.Arguments.{HasBytes, HasKey, HasNumber, Then}
use Rattle.script.specs.Commands.{Says as SaysPlain}
use Rattle.script.specs.Boards.{HasBoard}
use Rattle.script.specs.OrderFields.{HasOrders}
use Rattle.commands.specs.declared.command.Command.{Command}
use Rattle.commands.specs.declared.command.Command.TheVariants.{Plain, OfPit}
use Rattle.commands.specs.declared.command.PitCommand.{PitCommand}
use Rattle.commands.specs.declared.command.PitCommand.TheVariants.{Pit, Key, Open, Tick, Propose, Pass, Hear, Shelf, Look, Store, Board}
use Rattle.commands.specs.declared.command.SealKind.{SealKind}
use Rattle.commands.specs.declared.command.SealKind.TheVariants.{Stamp, Keyed}

-- the first field is written from the bytes that a vector holds
abbrev pub HasVector : List (List ℕ) → Vec ℕ Global → List (List ℕ) → Type 0
HasVector before bytes after = HasBytes before (vec_items bytes) after

-- the first field is a console's number
abbrev pub HasConsole : List (List ℕ) → ℕ → List (List ℕ) → Type 0
HasConsole before i after = HasNumber 255 before i after

-- the first field is a number of slots
abbrev pub HasSlots : List (List ℕ) → ℕ → List (List ℕ) → Type 0
HasSlots before slots after = HasNumber 300 before slots after

-- the first field is a number of four bytes
abbrev pub HasLong : List (List ℕ) → ℕ → List (List ℕ) → Type 0
HasLong before n after = HasNumber 4294967295 before n after

-- the word for a kind of seals
abbrev pub seal_word : SealKind → List ℕ
seal_word Stamp = codes "stamp"
seal_word Keyed = codes "keyed"

abbrev pub HasSeals : List (List ℕ) → SealKind → List (List ℕ) → Type 0
HasSeals before seals after = before ≡ seal_word seals ∷ after

-- no field is left, and the command is this one
abbrev pub Ends : PitCommand → PitCommand → List (List ℕ) → Type 0
Ends c d rest = (rest ≡ []) × (c ≡ d)

-- orders up to the end of the line, and the command that they make
abbrev pub EndsInOrders : PitCommand → (Vec Order Global → PitCommand) → List (List ℕ) → Type 0
EndsInOrders c make rest = (orders : Vec Order Global) × HasOrders rest (vec_items orders) × (c ≡ make orders)

-- the fields after each word
abbrev pub PitArguments : List (List ℕ) → PitCommand → Type 0
PitArguments fields c = Then HasLong (λ n. Then HasSeals (λ seals. Ends c (Pit n seals))) fields

abbrev pub KeyArguments : List (List ℕ) → PitCommand → Type 0
KeyArguments fields c = Then (HasNumber 15) (λ console. Then HasKey (λ key. Ends c (Key console key))) fields

abbrev pub OpenArguments : List (List ℕ) → PitCommand → Type 0
OpenArguments fields c =
    Then HasConsole (λ console. Then HasSlots (λ slots. Then HasBoard (λ board. Ends c (Open console slots board)))) fields

abbrev pub TickArguments : List (List ℕ) → PitCommand → Type 0
TickArguments fields c = Then HasConsole (λ console. Then HasLong (λ t. Ends c (Tick console t))) fields

abbrev pub ProposeArguments : List (List ℕ) → PitCommand → Type 0
ProposeArguments fields c =
    Then HasConsole (λ console. Then HasConsole (λ turn. Then (HasNumber 1024) (λ space.
    EndsInOrders c (λ orders. Propose console turn space orders)))) fields

abbrev pub HearArguments : List (List ℕ) → PitCommand → Type 0
HearArguments fields c = Then HasConsole (λ console. Then HasVector (λ bytes. Ends c (Hear console bytes))) fields

abbrev pub ShelfArguments : List (List ℕ) → PitCommand → Type 0
ShelfArguments fields c = Then HasConsole (λ console. Then HasSlots (λ slots. Ends c (Shelf console slots))) fields

-- a console and nothing more
abbrev pub OnlyConsole : List (List ℕ) → ℕ → Type 0
OnlyConsole fields i = HasConsole fields i []

abbrev pub ConsoleArgument : (ℕ → PitCommand) → List (List ℕ) → PitCommand → Type 0
ConsoleArgument make fields c = (i : ℕ) × OnlyConsole fields i × (c ≡ make i)

-- a line about one console, by its word and the fields after it
abbrev pub SaysOfConsole : List ℕ → List (List ℕ) → PitCommand → Type 0
SaysOfConsole word fields c =
    MatchBool (bytes_eq word (codes "pass")) (ConsoleArgument (λ j. Pass j) fields c)
    (MatchBool (bytes_eq word (codes "look")) (ConsoleArgument (λ i. Look i) fields c)
    (MatchBool (bytes_eq word (codes "store")) (ConsoleArgument (λ i. Store i) fields c)
    (MatchBool (bytes_eq word (codes "board")) (ConsoleArgument (λ i. Board i) fields c)
    ⊥)))

-- the words of the lines that name a console and nothing more
abbrev pub is_console_word : List ℕ → Bool
is_console_word word = bytes_eq word (codes "pass") || bytes_eq word (codes "look") || bytes_eq word (codes "store") || bytes_eq word (codes "board")

-- a line of a pit that says more
abbrev pub SaysMore : List ℕ → List (List ℕ) → PitCommand → Type 0
SaysMore word fields c =
    MatchBool (bytes_eq word (codes "pit")) (PitArguments fields c)
    (MatchBool (bytes_eq word (codes "key")) (KeyArguments fields c)
    (MatchBool (bytes_eq word (codes "open")) (OpenArguments fields c)
    (MatchBool (bytes_eq word (codes "tick")) (TickArguments fields c)
    (MatchBool (bytes_eq word (codes "propose")) (ProposeArguments fields c)
    (MatchBool (bytes_eq word (codes "hear")) (HearArguments fields c)
    (MatchBool (bytes_eq word (codes "shelf")) (ShelfArguments fields c)
    ⊥))))))

-- a line of a pit
abbrev pub SaysOfPit : List ℕ → List (List ℕ) → PitCommand → Type 0
SaysOfPit word fields c = MatchBool (is_console_word word) (SaysOfConsole word fields c) (SaysMore word fields c)

-- the words of the lines that need no pit
abbrev pub is_plain_word : List ℕ → Bool
is_plain_word word = bytes_eq word (codes "name") || bytes_eq word (codes "mac") || bytes_eq word (codes "read") || bytes_eq word (codes "try")

-- the fields of a line of this command: its first field, the word, says of what kind it is
abbrev pub Says : List (List ℕ) → Command → Type 0
Says fields (Plain c) = SaysPlain fields c
Says [] (OfPit c) = ⊥
Says (word ∷ fields) (OfPit c) = MatchBool (is_plain_word word) ⊥ (SaysOfPit word fields c)
