use Rattle.script.proofs.Sequence.{refused, not_first, not_later, single_number}
use Rattle.commands.proofs.read.read_open.Goals as goal

pub returns-in_err-slots : goal.returns-in_err-slots
returns-in_err-slots c =
    refused _ _ _ _ c.from_residual-in_err-slots.ensures.1
    (λ memory said. not_later single_number _ _ c.in_ok-console.ensures (λ _. not_first (c.in_err-slots.ensures memory)) said.1)
