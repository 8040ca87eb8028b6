use Rattle.std.proofs.Common.{sym, ◌∙◌, rules}
use Rattle.std.proofs.lemmas.Bool.{le-ltb}
use Rattle.wire.proofs.Signing.{none_above}
use Rattle.wire.proofs.certificate.Signers.has.Goals as goal

pub returns-else-console-lt16 : goal.returns-else-console-lt16
returns-else-console-lt16 c =
    le-ltb _ _ c.if-console-lt16.false ∙ sym (none_above _ _ (search rules) c.if-console-lt16.false)
