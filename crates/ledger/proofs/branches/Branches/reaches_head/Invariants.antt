use Rattle.std.proofs.Common.{◌≡◌}
use Rattle.rules.specs.Settle.{reaches}
use Rattle.ledger.proofs.branches.Branches.reaches_head.Given as goal

abbrev pub invariant-loop-at : goal.invariant-loop-at
invariant-loop-at l = reaches l.self.shelf.now l.self.head l.at ≡ reaches l.self.shelf.now l.self.head l.block

abbrev pub decreases-loop-at : goal.decreases-loop-at
decreases-loop-at l = l.at.body.view
