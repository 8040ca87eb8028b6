use Rattle.shelf.proofs.Meaning.{finds}
use Rattle.shelf.proofs.laws.find_stands.Goals as goal

pub returns : goal.returns
returns g c = finds _ _ _ g.met.R.Record.equal (λ a. g.met.R.Key.Eq.laws.refl a)
