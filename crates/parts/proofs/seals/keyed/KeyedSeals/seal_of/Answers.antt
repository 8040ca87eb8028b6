use Rattle.std.proofs.Common.{ℕ, ◌<◌, List, length, ap, ◌∙◌, arith}
use Rattle.parts.specs.Keyed.{keyed_seal}
use Rattle.parts.proofs.Sealing.{key_read, keyed_accepted}
use Rattle.parts.proofs.seals.keyed.KeyedSeals.seal_of.Goals as goal

pub returns : goal.returns
returns c =
    let all = c.args.self.now.all in
    let l : c.args.signer < length c.args.self.now.keys = omega arith in
    let is =
    c.seal_by.ensures ∙
    ap (λ (k : List ℕ). keyed_seal k c.args.statement.now) (key_read _ _ c.index-self-signer.result l) in
    record { made = is; accepted = keyed_accepted _ _ _ _ c.requires is }
