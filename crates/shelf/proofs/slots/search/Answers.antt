use Rattle.std.proofs.Common.{◌≡◌, Bool, Some, None, Option, refl, ◌∙◌, rules}
use Rattle.std.proofs.lemmas.Iterator.{YieldsList-from_slice}
use Rattle.std.proofs.lemmas.Iterator.Search.{position_from_yields_List}
use Rattle.std.specs.Option.{option_eq}
use Rattle.shelf.specs.Slots.{shows}
use Rattle.shelf.proofs.Search.{lowest_position}
use Rattle.shelf.proofs.slots.search.Goals as goal

-- a slot shows what is sought where the two keys are equal
equal_shows : {K : Type 0} (eq : K → K → Bool) (o sought : Option K) → option_eq eq o sought ≡ shows eq sought o
equal_shows eq None None = refl
equal_shows eq None (Some k) = refl
equal_shows eq (Some l) None = refl
equal_shows eq (Some l) (Some k) = refl

pub returns-clause-slot : goal.returns-clause-slot
returns-clause-slot g c =
    position_from_yields_List (λ s. shows g.R.Key.PartialEq.eq c.args.sought (g.R.Record.key s)) _ _ _ c.position.ensures.ran (YieldsList-from_slice c.args.slots.now cc) (λ x b q h. search (rules, equal_shows)) ∙
    lowest_position _ _
