use Rattle.std.proofs.Common.{sym, ap, arith}
use Rattle.wire.specs.declared.key.Key.{Key}
use Rattle.ledger.proofs.Choosing.{quiet_best, best_above}
use Rattle.ledger.proofs.Outcomes.{nothing_settled, line_settled}
use Rattle.ledger.specs.Ledgers.{ledger_of}
use Rattle.ledger.proofs.progress.Progress.settle.Goals as goal

pub returns-then-not-may_settle : goal.returns-then-not-may_settle
returns-then-not-may_settle g c =
    let s =
    nothing_settled g.B.Board.rule (g.B.Board.world c.args.board.now) c.args.n
    (ledger_of c.args.self.now c.args.shelf.now) (quiet_best _ _ _ (sym c.if-not-may_settle.ensures)) in
    record { number = s.number; ledger = s.ledger; after = s.world }

pub returns-in_default : goal.returns-in_default
returns-in_default g c =
    let s =
    nothing_settled g.B.Board.rule (g.B.Board.world c.args.board.now) c.args.n
    (ledger_of c.args.self.now c.args.shelf.now) (sym c.in_default.ensures) in
    record { number = s.number; ledger = s.ledger; after = s.world }

pub overflow_add-self : goal.overflow_add-self
overflow_add-self g c = let a = best_above _ _ _ c.in-Some.block (sym c.in-Some.ensures) in omega arith

pub invariant_of-self : goal.invariant_of-self
invariant_of-self g c =
    let a = best_above _ _ _ c.in-Some.block (sym c.in-Some.ensures) in
    let k = ap (λ (x : Key). x.view) c.key-self.ensures in
    record { counted = omega arith }

pub returns : goal.returns
returns g c =
    let s =
    line_settled g.B.Board.rule (g.B.Board.world c.args.board.now) (g.B.Board.world c.hand_over-over.new.board) c.args.n
    (ledger_of c.args.self.now c.args.shelf.now) c.in-Some.block c.hand_over-over.result c.sweep.new.shelf c.key-self.result
    (sym c.in-Some.ensures) c.hand_over-over.ensures.number c.sweep.ensures c.key-self.ensures
    c.hand_over-over.ensures.after in
    record { number = s.number; ledger = s.ledger; after = s.world }
