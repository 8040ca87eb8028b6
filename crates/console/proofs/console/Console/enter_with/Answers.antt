use Rattle.std.proofs.Common.{length, refl}
use Rattle.rules.specs.Call.{opening}
use Rattle.console.specs.Seen.{seen}
use Rattle.console.proofs.Silent.{did_advances, entered_as, quietly}
use Rattle.console.proofs.console.Console.enter_with.Goals as goal

pub returns-in-OpenWith-clause-advances : goal.returns-in-OpenWith-clause-advances
returns-in-OpenWith-clause-advances g c =
    let s = seen g.T.Store.kept c.args.self.now c.args.shelf.now in
    let call = opening (length c.args.shelf.now) in
    entered_as _ _ _ _ _ _ _ _ _ _ _ _ c.in-OpenWith.is (did_advances s call (quietly s call (λ _. refl) c.reopen_with.ensures.did))
