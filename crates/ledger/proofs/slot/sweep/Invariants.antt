use Rattle.ledger.proofs.Scans.{SweptTo}
use Rattle.ledger.proofs.slot.sweep.Given as goal

abbrev pub invariant-loop-slot : goal.invariant-loop-slot
invariant-loop-slot l = SweptTo l.view l.initial.shelf l.shelf l.slot-index
