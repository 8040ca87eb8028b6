use Rattle.std.proofs.Common.{sym}
use Rattle.text.specs.Splitting.{fields_left}
use Rattle.script.proofs.Sequence.{refused}
use Rattle.commands.proofs.PlainWords.{none_but_plain}
use Rattle.commands.proofs.parse.parse.Goals as goal

pub returns-in_err-parse_fields : goal.returns-in_err-parse_fields
returns-in_err-parse_fields c =
    rw (← c.of-fields.ensures, c.in_ok-word.ensures.0)
    (refused _ _ _ _ c.from_residual-in_err-parse_fields.ensures.1
    (none_but_plain _ c.in_ok-word.word.now (fields_left c.next.new.self) (sym c.if-is_plain.ensures) c.in_err-parse_fields.ensures))
