use Rattle.std.proofs.Common.{◌≡◌, length, ap, ◌∙◌, rules}
use Rattle.std.proofs.lemmas.List.{length-map}
use Rattle.parts.proofs.Sealing.{keys_mapped}
use Rattle.parts.proofs.seals.keyed.sealing.ready.Goals as goal

pub returns : goal.returns
returns c =
    let long : length c.each_ref.result ≡ 16 = simp length-map at (ap length c.each_ref.ensures.items) ∙ c.told-keys in
    keys_mapped _ (λ r. r.now) _ _ _ _ c.map.ensures.items long (λ key k p q called. search rules) ∙ c.each_ref.ensures.items
