use Rattle.std.proofs.Common.{None, ◌∙◌, rules, tests}
use Rattle.std.proofs.lemmas.Iterator.Adapters.{YieldsList-from_rev_slice}
use Rattle.std.proofs.lemmas.Iterator.Consumers.{YieldsList-from_filter, fold_from_yields_List}
use Rattle.rules.specs.Settle.{higher, ready}
use Rattle.ledger.proofs.Choosing.{best_fold}
use Rattle.ledger.proofs.branches.Branches.best_ready.Goals as goal

pub returns : goal.returns
returns c =
    let p = ready c.args.self.now.n c.args.self.now.shelf.now c.args.self.now.head in
    fold_from_yields_List _ (λ found x. higher x found) None c.fold.result c.fold.ensures.ran
    (YieldsList-from_filter _ p (YieldsList-from_rev_slice c.args.self.now.shelf.now cc) c.filter.ensures.closure (λ x b q k. search (rules, tests)))
    (λ a x b q k. search (rules, tests))
    ∙ best_fold p _
