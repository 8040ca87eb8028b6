use Rattle.std.proofs.Common.{sym, ◌∙◌}
use Rattle.std.proofs.lemmas.Bool.{not-false, not-true}
use Rattle.ledger.proofs.Lines.{parent_below, reaches_here, reaches_on, reaches_end}
use Rattle.ledger.proofs.branches.Branches.reaches_head.Goals as goal

pub loop-at-smaller : goal.loop-at-smaller
loop-at-smaller c = parent_below _ c.loop-at.at.now c.in-Some.older.now (sym c.in-Some.ensures)

pub loop-at-preserved : goal.loop-at-preserved
loop-at-preserved c =
    sym (reaches_on _ _ _ _ (not-true _ (sym c.loop-at-test.ensures)) (sym c.in-Some.ensures)) ∙ c.loop-at.invariant

pub returns-in_default : goal.returns-in_default
returns-in_default c =
    sym (reaches_end _ _ _ (not-true _ (sym c.loop-at-test.ensures)) (sym c.in_default.ensures)) ∙ c.loop-at.invariant

pub returns : goal.returns
returns c = sym (reaches_here _ _ _ (not-false _ (sym c.loop-at-test.ensures))) ∙ c.loop-at.invariant
