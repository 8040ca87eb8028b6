use Rattle.std.proofs.Common.{[], refl}
use Rattle.console.proofs.Doing.{does_only}
use Rattle.console.proofs.console.Console.pass.Goals as goal

pub returns : goal.returns
returns g c = λ xs. ([], does_only refl refl)
