-- The two halves put together.
use Rattle.liveness.proofs.Finish.{hand_over}
use Rattle.safety.proofs.Agreement.{chains_agree, chains_counted}
use Rattle.safety.proofs.Boards.{boards_show}
use Rattle.agreement.proofs.promise.Goals as goal

pub returns : goal.returns
returns g c =
    λ pit sheet s.
    record {
      agree = chains_agree pit sheet s;
      counted = chains_counted pit sheet s;
      shows = λ i _ a. boards_show g.B.Board.rule pit a.lines i;
      hands_over = hand_over pit sheet s;
    }
