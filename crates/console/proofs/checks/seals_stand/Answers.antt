use Rattle.std.proofs.Common.{ap, ◌∙◌, refl, rules, tests}
use Rattle.std.proofs.lemmas.Iterator.{YieldsList-from_range}
use Rattle.std.proofs.lemmas.Iterator.Search.{all_from_yields_List}
use Rattle.std.specs.List.{list_all, range_with_len}
use Rattle.wire.specs.declared.statement.Statement.{Statement}
use Rattle.console.proofs.Certificates.{seals_all, stands_for}
use Rattle.console.proofs.checks.seals_stand.Goals as goal

pub returns : goal.returns
returns g c =
    let table = (g.S.Seals.keys c.args.seals.now).table in
    let signers = c.args.signers.now in
    all_from_yields_List (stands_for table c.votes_for-statement.result signers) _ _ _ c.all.ensures.ran
    (YieldsList-from_range 0 16 16 refl refl) (λ x b q k. search (rules, tests))
    ∙ ap (λ (x : Statement). list_all (stands_for table x signers) (range_with_len 0 16)) c.votes_for-statement.ensures
    ∙ seals_all _ _ _ 16
