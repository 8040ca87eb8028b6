-- Each example by computation.
use Rattle.std.proofs.Common.{refl}
use lib.Count.{ones}
use Rattle.shelf.specs.Slots.{lowest}
use Rattle.wire.specs.Bytes.{be, num}
use Rattle.rules.specs.Blocks.{swept}
use Rattle.rules.specs.Settle.{best, line_within, reaches_within, settle, settle_at}
use Rattle.wire_laws.proofs.Messages.{proposal_165}
use Rattle.examples.proofs.worked_examples.Goals as goal

pub returns : goal.returns
unfolding be num settle settle_at best line_within reaches_within lowest swept ones
returns c =
    record {
      quorums = (
        record { faulty = refl; size = refl; is = refl; is_not = refl },
        record { faulty = refl; size = refl; is = refl; is_not = refl },
        record { faulty = refl; size = refl; is = refl; is_not = refl },
      );
      leaders = (refl, refl, refl);
      locks = (refl, refl, refl, refl, refl);
      records = (refl, proposal_165);
      numbers = ((refl, refl), (refl, refl));
      handing_over = (refl, refl, refl, refl);
    }
