-- What the clerk answers.
use Rattle.std.specs.Prelude.{◌≡◌, ℕ, ◌⊎◌, List, [], ◌∷◌, ◌++◌, take, Some, None, Ok, Err, vec_items, string_bytes, codes, Option, Result, String}
use Rattle.std.specs.declared.alloc.Global.{Global}
use Rattle.digest.specs.Sha256.{digest}
use Rattle.digest.specs.Hmac.{hmac}
use Rattle.text.specs.Hexadecimal.{hex_written}
use Rattle.text.specs.Splitting.{split}
use Rattle.commands.specs.declared.command.Command.{Command as AnyCommand}
use Rattle.commands.specs.declared.command.Command.TheVariants as any
use Rattle.commands.specs.Commands.{Says as SaysAny}
use Rattle.script.specs.declared.command.Command.{Command}
use Rattle.script.specs.declared.command.Command.TheVariants.{Name, Mac, Read, Try}
use Rattle.script.specs.declared.fault.Fault.{Fault}
use Rattle.script.specs.Commands.{Says}
use Rattle.script.specs.Faults.{Refutes}
use Rattle.script.specs.Lines.{Blank, Comment}
use Rattle.script.specs.declared.command.NewBoard.{NewBoard}
use Rattle.wire.specs.declared.order.Order.{Order}
use Rattle.shift.specs.declared.stop.Stop.{Stop}
use Rattle.shift.specs.declared.stop.Stop.TheVariants as stop
use Rattle.telling.specs.Messages.{reading_told}
use Rattle.telling.specs.Tries.{trial_told}

abbrev pub line_of : List ℕ → List ℕ
line_of text = text ++ 10 ∷ []

-- the answers to the lines that need no pit: a keyed seal is the first 16 bytes of the tag
abbrev pub name_line : List ℕ → List ℕ
name_line bytes = line_of (codes "name: " ++ hex_written (digest bytes))

abbrev pub mac_line : List ℕ → List ℕ → List ℕ
mac_line key bytes = line_of (codes "mac: " ++ hex_written (take 16 (hmac key bytes)))

abbrev pub read_line : ℕ → List ℕ → List ℕ
read_line n bytes = line_of (codes "read: " ++ reading_told n bytes)

abbrev pub try_line : NewBoard → List Order → List ℕ
try_line board orders = line_of (codes "try:" ++ trial_told board orders)

-- what a command adds to a text
abbrev pub Replied : Command → List ℕ → List ℕ → Type 0
Replied (Name bytes) before after = after ≡ before ++ name_line (vec_items bytes)
Replied (Mac key bytes) before after = after ≡ before ++ mac_line key (vec_items bytes)
Replied (Read n bytes) before after = after ≡ before ++ read_line n (vec_items bytes)
Replied (Try board orders) before after = after ≡ before ++ try_line board (vec_items orders)

-- what playing a line that needs no pit answers: nothing where it is passed over, else the reply to the command that it says, as a line
abbrev pub Answers : List ℕ → Result (Option (String Global)) Fault → Type 0
Answers line (Ok None) = Blank line ⊎ Comment line
Answers line (Ok (Some answer)) = (c : Command) × Says (split line) c × Replied c [] (string_bytes answer)
Answers line (Err e) = Refutes e ((c : Command) × Says (split line) c)

-- what any command adds to a text: nothing is said here of the answers of a pit
abbrev pub RepliedToAny : AnyCommand → List ℕ → List ℕ → Type 0
RepliedToAny (any.Plain c) before after = Replied c before after
RepliedToAny (any.OfPit c) before after = Unit {0}

-- the command is one that needs a pit, or makes one
abbrev pub OfPit : AnyCommand → Type 0
OfPit (any.Plain c) = ⊥
OfPit (any.OfPit c) = Unit {0}

-- what playing any line answers: nothing where it is passed over, else the reply to the command that it says, as a line; and where
-- it answers neither, memory failed, or the line says no command, or it says one of a pit
abbrev pub AnswersAny : List ℕ → Result (Option (String Global)) Stop → Type 0
AnswersAny line (Ok None) = Blank line ⊎ Comment line
AnswersAny line (Ok (Some answer)) = (c : AnyCommand) × SaysAny (split line) c × RepliedToAny c [] (string_bytes answer)
AnswersAny line (Err (stop.Line fault)) = Refutes fault ((c : AnyCommand) × SaysAny (split line) c)
AnswersAny line (Err (stop.Pit trouble)) = (c : AnyCommand) × SaysAny (split line) c × OfPit c
AnswersAny line (Err stop.Input) = ⊥
AnswersAny line (Err stop.Output) = ⊥
