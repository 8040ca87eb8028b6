use Rattle.std.proofs.Common.{◌≡◌, true, is_ok, arith}
use Rattle.std.proofs.Output.{has_written_append, has_written_of_eq}
use Rattle.text.proofs.Pairs.{pairs_more}
use Rattle.text.proofs.hex.write_pairs.Goals as goal

pub loop-b-preserved : goal.loop-b-preserved
loop-b-preserved g c plain =
    let went : is_ok c.write_byte.result ≡ true = let was = c.in_ok-write_byte.was in grind arith in
    let before = c.loop-b.invariant plain in
    let after = c.write_byte.ensures before.plain went in
    has_written_of_eq _ _ _ _ _ (pairs_more c.args.bytes.now c.loop-b.b-index c.loop-b-test.true) (has_written_append _ _ _ _ _ _ before after)
