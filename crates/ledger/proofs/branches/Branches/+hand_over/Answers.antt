use Rattle.std.proofs.Common.{ℕ, ◌+◌, ap, ◌∙◌, arith, rules}
use Rattle.parts.specs.Fed.{fed}
use Rattle.ledger.proofs.Lines.{before_below, hands_on, hands_first}
use Rattle.ledger.proofs.branches.Branches.+hand_over.Goals as goal
use Rattle.ledger.proofs.branches.Branches.+hand_over.Goals.{in-Some, in-None}

pub hand_over-older-requires : goal.hand_over-older-requires
hand_over-older-requires g t c =
    let v = before_below c.args.self.now.shelf.now c.args.self.now.head c.args.block.now c.in-Some.before.now c.in-Some.ensures in
    search rules

pub overflow_add-result : goal.overflow_add-result
overflow_add-result g t c =
    elim c.match-before.branch [
      | in-Some w ↦
          let v = before_below c.args.self.now.shelf.now c.args.self.now.head c.args.block.now w.in-Some.before.now w.in-Some.ensures in
          omega (arith, w.older-is, w.hand_over-older.ensures.fits)
      | in-None w ↦ omega (arith, w.older-is)
    ]

pub returns : goal.returns
returns g t c =
    let shelf = c.args.self.now.shelf.now in
    let head = c.args.self.now.head in
    let block = c.args.block.now in
    elim c.match-before.branch [
      | in-Some w ↦
          let e = w.hand_over-older.ensures in
          let h =
          hands_on g.B.Board.rule shelf head block w.in-Some.before.now (g.B.Board.world c.args.board.now)
          (g.B.Board.world c.match-before.board) (g.B.Board.world c.take_all.new.board) c.match-before.older _
          w.in-Some.ensures
          (record {
            number = w.older-is ∙ e.number;
            fits = omega (arith, w.older-is, e.fits);
            after = ap g.B.Board.world w.board-is ∙ e.after;
          })
          c.as_slice.ensures.orders c.take_all.ensures in
          record { number = h.number; fits = h.fits; after = h.after }
      | in-None w ↦
          let h =
          hands_first g.B.Board.rule shelf head block (g.B.Board.world c.args.board.now)
          (g.B.Board.world c.take_all.new.board) _ w.in-None.ensures
          c.as_slice.ensures.orders
          (c.take_all.ensures ∙ ap (λ b. fed g.B.Board.rule (g.B.Board.world b) c.as_slice.result.now) w.board-is) in
          record { number = ap (λ (k : ℕ). k + 1) w.older-is ∙ h.number; fits = omega (arith, w.older-is); after = h.after }
    ]
