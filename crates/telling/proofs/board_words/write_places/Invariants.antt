use Rattle.std.proofs.Common.{◌-◌}
use Rattle.std.specs.Fmt.{IsPlainFormatter, HasWritten}
use Rattle.telling.specs.Shown.{places_up_to}
use Rattle.telling.proofs.board_words.write_places.Given as goal

abbrev pub invariant-loop-number : goal.invariant-loop-number
invariant-loop-number g l = IsPlainFormatter l.initial.f → HasWritten g.W.Write.write_str_gives l.initial.f (places_up_to (l.number - 1) l.board.places) l.f
