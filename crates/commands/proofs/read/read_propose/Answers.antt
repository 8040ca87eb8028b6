use Rattle.std.proofs.Common.{refl}
use Rattle.script.proofs.Sequence.{refused, taken, not_first, not_later, single_number}
use Rattle.commands.proofs.read.read_propose.Goals as goal

pub returns-in_err-turn : goal.returns-in_err-turn
returns-in_err-turn c =
    refused _ _ _ _ c.from_residual-in_err-turn.ensures.1
    (λ memory said. not_later single_number _ _ c.in_ok-console.ensures (λ _. not_first (c.in_err-turn.ensures memory)) said.1)

pub returns-in_err-space : goal.returns-in_err-space
returns-in_err-space c =
    refused _ _ _ _ c.from_residual-in_err-space.ensures.1
    (λ memory said.
    not_later single_number _ _ c.in_ok-console.ensures
    (λ _. not_later single_number _ _ c.in_ok-turn.ensures (λ _. not_first (c.in_err-space.ensures memory)))
    said.1)

pub returns : goal.returns
returns c =
    taken _ _ c.in_ok-console.ensures
    (taken _ _ c.in_ok-turn.ensures
    (taken _ _ c.in_ok-space.ensures (c.in_ok-orders.orders, c.in_ok-orders.ensures, refl)))
