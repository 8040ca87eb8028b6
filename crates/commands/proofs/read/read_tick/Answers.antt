use Rattle.script.proofs.Sequence.{refused, not_first, not_later, single_number}
use Rattle.commands.proofs.read.read_tick.Goals as goal

pub returns-in_err-t : goal.returns-in_err-t
returns-in_err-t c =
    refused _ _ _ _ c.from_residual-in_err-t.ensures.1
    (λ memory said. not_later single_number _ _ c.in_ok-console.ensures (λ _. not_first (c.in_err-t.ensures memory)) said.1)
