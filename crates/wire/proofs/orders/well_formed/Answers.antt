use Rattle.std.proofs.Common.{rules, tests}
use Rattle.std.proofs.lemmas.Iterator.{YieldsList-from_slice}
use Rattle.std.proofs.lemmas.Iterator.Search.{all_from_yields_List}
use Rattle.wire.specs.Format.{well_formed}
use Rattle.wire.specs.Read.{all_well_formed}
use Rattle.wire.proofs.orders.well_formed.Goals as goal

pub returns : goal.returns
unfolding all_well_formed
returns c =
    all_from_yields_List well_formed _ _ _ c.all.ensures.ran (YieldsList-from_slice c.args.orders.now cc) (λ x b q h. search (rules, tests))
