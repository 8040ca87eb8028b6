use Rattle.ledger.proofs.branches.Branches.+hand_over.Given as goal

abbrev pub decreases-hand_over : goal.decreases-hand_over
decreases-hand_over g l = l.block.now.body.view
