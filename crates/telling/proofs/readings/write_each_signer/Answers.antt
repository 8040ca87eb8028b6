use Rattle.std.proofs.Common.{◌≡◌, true, is_ok, codes, decimal, arith}
use Rattle.std.proofs.Output.{has_written_append, has_written_of_eq}
use Rattle.wire.specs.Format.{signed}
use Rattle.telling.proofs.Growing.{nothing_written, passed_none, passed_more}
use Rattle.telling.proofs.readings.write_each_signer.Goals as goal

pub loop-console-init : goal.loop-console-init
loop-console-init g c plain = nothing_written _ _ _ (passed_none (codes " ") decimal (signed c.args.signers.now.set) 0) plain

pub loop-console-preserved : goal.loop-console-preserved
loop-console-preserved g c plain =
    let went : is_ok c.write_signer.result ≡ true = let was = c.in_ok-write_signer.was in grind arith in
    let before = c.loop-console.invariant plain in
    let after = c.write_signer.ensures before.plain went in
    has_written_of_eq _ _ _ _ _ (passed_more (codes " ") decimal (signed c.args.signers.now.set) 0 c.loop-console.console c.loop-console.console (omega arith)) (has_written_append _ _ _ _ _ _ before after)
