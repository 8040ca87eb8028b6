use Rattle.std.proofs.Common.{◌∙◌, rules}
use Rattle.vectors.proofs.Digits.{pairs_mapped}
use Rattle.vectors.proofs.hex.hex.Goals as goal

pub returns : goal.returns
returns c =
    c.copy_from_slice.ensures.after ∙ c.as_flattened.ensures.value ∙
    pairs_mapped _ _ _ _ _ c.map.ensures.items c.told-bytes (λ b d p q called. search rules)
