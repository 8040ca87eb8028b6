use Rattle.std.proofs.Common.{refl, rules}
use Rattle.pit.proofs.pit.Pit.play.Goals as goal

pub returns-in_ok-play-in-Some-slot : goal.returns-in_ok-play-in-Some-slot
returns-in_ok-play-in-Some-slot c =
    record {
      was = c.in-Some-slot.seat;
      left = c.play.new.self;
      open_before = let e = c.in-Some.ensures in let is = c.in-Some-slot.is in search rules;
      others = (refl, refl, refl);
      plays = c.in_ok-play-in-Some-slot.ensures;
    }
