use Rattle.std.proofs.Common.{length, refl}
use Rattle.rules.specs.Call.{passing}
use Rattle.console.specs.Seen.{owed, seen}
use Rattle.console.proofs.Silent.{entered, quietly}
use Rattle.console.proofs.console.Console.enter.Goals as goal

pub returns-in-Pass-clause-advances : goal.returns-in-Pass-clause-advances
returns-in-Pass-clause-advances g c =
    let s = seen g.T.Store.kept c.args.self.now c.args.shelf.now in
    let slots = length c.args.shelf.now in
    entered s slots (length c.args.out.now) c.in-Pass.is (quietly s (passing (owed c.in-Pass.turn)) (λ _. refl) (c.pass.ensures c.args.shelf.now))
