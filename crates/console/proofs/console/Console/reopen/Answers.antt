use Rattle.std.proofs.Common.{[], refl, rules}
use Rattle.console.proofs.Doing.{does_only}
use Rattle.console.proofs.console.Console.reopen.Goals as goal

pub returns-clause-did : goal.returns-clause-did
returns-clause-did g c = ([], does_only refl (search rules))
