-- What settling comes to, by the block that is chosen.
use Rattle.std.proofs.Common.{◌≡◌, ℕ, ◌+◌, List, [], length, Some, None, sym, ap, ◌∙◌}
use Rattle.parts.specs.Fed.{fed}
use Rattle.rules.specs.Blocks.{Slot, block_key, swept}
use Rattle.rules.specs.Settle.{Settled, best, ready, line, settle, settle_at}
use Rattle.rules.specs.State.{Ledger}
use Rattle.rules.specs.declared.block.Block.{Block}
use Rattle.wire.specs.declared.key.Key.{Key}
use Rattle.wire.specs.declared.order.Order.{Order}
use Rattle.sheets.specs.Sheet.{all_orders}
use Rattle.ledger.proofs.Lines.{fed_none}

pub settled_none : (n : ℕ) (g : Ledger) → best (ready n g.shelf g.head) g.shelf ≡ None → settle n g ≡ record { ledger = g; handed = [] }
unfolding settle settle_at
settled_none n g e = ap (λ (x : Slot). settle_at x g) e

-- the ledger after the line up to b was handed over
abbrev pub moved : Ledger → Block → Ledger
moved g b =
    record {
      shelf = swept b.body.view g.shelf;
      top = g.top;
      head = block_key b;
      count = g.count + length (line g.shelf g.head b);
    }

pub settled_some : (n : ℕ) (g : Ledger) (b : Block) → best (ready n g.shelf g.head) g.shelf ≡ Some b →
    settle n g ≡ record { ledger = moved g b; handed = line g.shelf g.head b }
unfolding settle settle_at
settled_some n g b e = ap (λ (x : Slot). settle_at x g) e

-- the three clauses of settling
pub record Settles {W : Type 0} (rule : W → Order → W) (w end : W) (r : ℕ) (after : Ledger) (s : Settled) : Type 0 where
  pub number : r ≡ length s.handed
  pub ledger : after ≡ s.ledger
  pub world : end ≡ fed rule w (all_orders s.handed)

pub nothing_settled : {W : Type 0} (rule : W → Order → W) (w : W) (n : ℕ) (g : Ledger) →
    best (ready n g.shelf g.head) g.shelf ≡ None → Settles rule w w 0 g (settle n g)
nothing_settled rule w n g e =
    let s = settled_none n g e in
    record {
      number = sym (ap (λ (t : Settled). length t.handed) s);
      ledger = sym (ap (λ (t : Settled). t.ledger) s);
      world = sym (ap (λ (t : Settled). fed rule w (all_orders t.handed)) s ∙ fed_none rule w);
    }

pub line_settled : {W : Type 0} (rule : W → Order → W) (w end : W) (n : ℕ) (g : Ledger) (b : Block) (r : ℕ) (xs : List Slot) (k : Key) →
    best (ready n g.shelf g.head) g.shelf ≡ Some b →
    r ≡ length (line g.shelf g.head b) → xs ≡ swept b.body.view g.shelf → k ≡ block_key b →
    end ≡ fed rule w (all_orders (line g.shelf g.head b)) →
    Settles rule w end r (record { shelf = xs; top = g.top; head = k; count = g.count + r }) (settle n g)
line_settled rule w end n g b r xs k e er ex ek ew =
    let s = settled_some n g b e in
    record {
      number = er ∙ sym (ap (λ (t : Settled). length t.handed) s);
      ledger =
          (λ i. record { shelf = ex i; top = g.top; head = ek i; count = g.count + er i })
          ∙ sym (ap (λ (t : Settled). t.ledger) s);
      world = ew ∙ sym (ap (λ (t : Settled). fed rule w (all_orders t.handed)) s);
    }
