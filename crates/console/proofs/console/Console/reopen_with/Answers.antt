use Rattle.std.proofs.Common.{[], refl}
use Rattle.console.proofs.Doing.{does_only}
use Rattle.console.proofs.console.Console.reopen_with.Goals as goal

pub returns-clause-did : goal.returns-clause-did
returns-clause-did g c = ([], does_only refl c.reopen.ensures.did.1.state)
