use Rattle.std.proofs.lemmas.Slice.Eq.{starts_is}
use Rattle.vectors.proofs.Digits.{published_is}
use Rattle.vectors.proofs.report.is_published.Goals as goal
use Rattle.std.proofs.lemmas.Bool.Decides.{Decides-eqb}

pub returns : goal.returns
returns c =
    published_is c.args.came.now c.args.published.now c.hex.result c.as_bytes.result.now c.starts_with.result
    c.hex.ensures c.as_bytes.ensures.value
    (starts_is Decides-eqb c.hex.result c.as_bytes.result.now c.starts_with.result c.starts_with.ensures.value)
