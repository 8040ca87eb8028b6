use Rattle.shelf.proofs.Meaning.{finds_vacant}
use Rattle.shelf.proofs.laws.vacant_stands.Goals as goal

pub returns : goal.returns
returns g c = finds_vacant _ _
