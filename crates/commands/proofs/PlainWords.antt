-- Lines of words that are known.
use Rattle.std.proofs.Common.{◌≡◌, ℕ, true, List, ◌∷◌}
use Rattle.script.specs.Commands.{Says as SaysPlain}
use Rattle.script.specs.Faults.{Refutes}
use Rattle.script.specs.declared.command.Command.{Command as PlainCommand}
use Rattle.script.specs.declared.fault.Fault.{Fault}
use Rattle.commands.specs.Commands.{Says, is_plain_word}
use Rattle.commands.specs.declared.command.Command.{Command}
use Rattle.commands.specs.declared.command.Command.TheVariants.{Plain, OfPit}

plain_said : (word : List ℕ) (fields : List (List ℕ)) (c : Command) → is_plain_word word ≡ true → Says (word ∷ fields) c → (d : PlainCommand) × SaysPlain (word ∷ fields) d
plain_said word fields (Plain d) plain said = (d, said)
plain_said word fields (OfPit c) plain said = absurd (rw plain at said)

-- where a line's word needs no pit, and no command without one is said, none is
pub none_but_plain : (e : Fault) (word : List ℕ) (fields : List (List ℕ)) → is_plain_word word ≡ true → Refutes e ((d : PlainCommand) × SaysPlain (word ∷ fields) d) → Refutes e ((c : Command) × Says (word ∷ fields) c)
none_but_plain e word fields plain none memory said = none memory (plain_said word fields said.0 plain said.1)
