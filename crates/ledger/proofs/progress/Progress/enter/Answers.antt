use Rattle.std.proofs.Common.{sym}
use Rattle.ledger.proofs.Entries.{not_held, held_empty, held_there}
use Rattle.ledger.proofs.progress.Progress.enter.Goals as goal

pub returns-in_default : goal.returns-in_default
returns-in_default c = not_held _ _ _ _ _ c.if-vote-ge16.false (sym c.in_default.ensures.slot)

pub returns-in_default-shelf : goal.returns-in_default-shelf
returns-in_default-shelf c =
    held_empty _ _ _ _ _ _ c.if-vote-ge16.false (sym c.in-Some.ensures.slot) c.in_default-shelf.not-Some

pub returns : goal.returns
returns c =
    held_there _ _ _ _ _ _ _ c.if-vote-ge16.false (sym c.in-Some.ensures.slot) c.in-Some-shelf.is _ _ _
    c.with_vote-tally.ensures c.key.ensures c.top_with-self.ensures
