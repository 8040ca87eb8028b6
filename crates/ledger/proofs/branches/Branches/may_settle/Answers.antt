use Rattle.std.proofs.Common.{◌∙◌, rules, tests}
use Rattle.std.proofs.lemmas.Iterator.{YieldsList-from_slice}
use Rattle.std.proofs.lemmas.Iterator.Search.{any_from_yields_List}
use Rattle.ledger.specs.Handed.{awaits}
use Rattle.ledger.proofs.Scans.{some_slot_any}
use Rattle.ledger.proofs.branches.Branches.may_settle.Goals as goal

pub returns : goal.returns
returns c =
    any_from_yields_List (awaits c.args.self.now.n c.args.self.now.shelf.now c.args.self.now.head) _ _ _ c.any.ensures.ran (YieldsList-from_slice c.args.self.now.shelf.now cc) (λ x b q k. search (rules, tests))
    ∙ some_slot_any _ _
