use Rattle.std.proofs.Common.{◌≡◌, true, is_ok, arith}
use Rattle.std.proofs.Output.{has_written_append, has_written_of_eq}
use Rattle.telling.proofs.Growing.{nothing_written}
use Rattle.telling.proofs.Telling.{places_zero, places_more}
use Rattle.telling.proofs.board_words.write_places.Goals as goal

pub loop-number-init : goal.loop-number-init
loop-number-init g c plain = nothing_written _ _ _ (places_zero c.args.board.now.places) plain

pub loop-number-preserved : goal.loop-number-preserved
loop-number-preserved g c plain =
    let went : is_ok c.write.result ≡ true = let was = c.in_ok-write.was in grind arith in
    let before = c.loop-number.invariant plain in
    let after = c.write.ensures.writes before.plain went in
    has_written_of_eq _ _ _ _ _ (places_more c.loop-number.number _ c.args.board.now.places (omega arith) (omega arith)) (has_written_append _ _ _ _ _ _ before after)
