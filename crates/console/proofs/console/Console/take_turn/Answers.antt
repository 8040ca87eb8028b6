use Rattle.std.proofs.Common.{sym, refl}
use Rattle.console.specs.Seen.{seen}
use Rattle.console.proofs.Doing.{does_alone, does_as, does_only}
use Rattle.console.proofs.Steps.{turn_taken, turn_not}
use Rattle.console.proofs.console.Console.take_turn.Goals as goal

pub returns-then-not-leads-clause-did : goal.returns-then-not-leads-clause-did
returns-then-not-leads-clause-did g c =
    λ xs. does_alone (turn_not _ (sym (c.if-not-leads.ensures xs)))

pub returns-clause-did : goal.returns-clause-did
returns-clause-did g c =
    λ xs.
    let s = seen g.T.Store.kept c.args.self.now xs in
    does_as (turn_taken _ (sym (c.if-not-leads.ensures xs)))
    (does_only
    refl
    (λ i. record {
      seat = s.seat;
      tick = s.tick;
      view = s.view;
      candidate = s.candidate;
      marks = record { lock = s.marks.lock; voted = s.marks.voted; proposed = s.view };
      store = c.save.ensures i;
      ledger = s.ledger;
    }))
