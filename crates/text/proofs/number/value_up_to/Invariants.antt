use Rattle.std.proofs.Common.{◌≡◌, ◌≤◌, drop}
use Rattle.text.specs.Decimal.{value, value_after}
use Rattle.text.proofs.number.value_up_to.Given as goal

abbrev pub invariant-loop-c : goal.invariant-loop-c
invariant-loop-c l = (value_after l.n (drop l.c-index l.field) ≡ value l.field) × (l.n ≤ l.highest)
