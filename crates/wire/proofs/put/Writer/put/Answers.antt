use Rattle.std.proofs.Common.{rules}
use Rattle.std.proofs.lemmas.Slice.{overwrites}
use Rattle.wire.proofs.put.Writer.put.Goals as goal

pub returns : goal.returns
returns c = record { wrote = search (rules, overwrites); room = search (rules, overwrites); lent = search rules }
