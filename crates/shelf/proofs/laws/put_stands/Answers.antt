use Rattle.shelf.proofs.Meaning.{puts}
use Rattle.shelf.proofs.laws.put_stands.Goals as goal

pub returns : goal.returns
returns g c = puts _ _
