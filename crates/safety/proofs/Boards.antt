-- A board is where the orders of its chain bring it.
use Rattle.std.proofs.Common.{◌≡◌, Bool, true, false, cond, eqb, List, [], ◌∷◌, ◌++◌, sym, refl, ap, ◌∙◌}
use Rattle.std.proofs.lemmas.List.{append_assoc}
use Rattle.wire.specs.Format.{orders_of}
use Rattle.wire.specs.declared.body.Body.{Body}
use Rattle.wire.specs.declared.order.Order.{Order}
use Rattle.parts.specs.Fed.{fed}
use Rattle.sheets.specs.Sheet.{done, handed_in, is_opening, chain, all_orders, board_at, board_opened}
use Rattle.safety.specs.Agreement.{BoardsShow}

-- orders that follow others
pub orders_append : (xs ys : List Body) → all_orders (xs ++ ys) ≡ all_orders xs ++ all_orders ys
unfolding all_orders
orders_append [] ys = refl
orders_append (x ∷ xs) ys =
    ap (λ (os : List Order). orders_of x.orders ++ os) (orders_append xs ys)
    ∙ sym (append_assoc (orders_of x.orders) (all_orders xs) (all_orders ys))

module _ {World : Type 0} (rule : World → Order → World) where
  pub fed-append : (w : World) (xs ys : List Order) → fed rule w (xs ++ ys) ≡ fed rule (fed rule w xs) ys
  unfolding fed
  fed-append w [] ys = refl
  fed-append w (x ∷ xs) ys = fed-append (rule w x) xs ys

  -- one line more, by what it is: at this console or not, an opening or not
  board_more : (own op : Bool) (given was start : World) (bodies handed : List Body) → was ≡ fed rule start (all_orders bodies)
      → cond own (cond op given (fed rule was (all_orders handed))) was
      ≡ fed rule (cond own (cond op given start) start) (all_orders (cond own (cond op [] (bodies ++ handed)) bodies))
  unfolding fed all_orders
  board_more true true given was start bodies handed e = refl
  board_more true false given was start bodies handed e =
      ap (λ (w : World). fed rule w (all_orders handed)) e
      ∙ sym (fed-append start (all_orders bodies) (all_orders handed))
      ∙ ap (fed rule start) (sym (orders_append bodies handed))
  board_more false op given was start bodies handed e = e

  pub boards_show : BoardsShow World rule
  unfolding board_at board_opened chain fed all_orders
  boards_show pit [] i given none = refl
  boards_show pit (l ∷ ls) i given none =
      board_more (eqb l.console i) (is_opening l.call) (given ls) (board_at rule given none pit i ls) (board_opened given none i ls)
      (chain pit i ls) (handed_in (done pit l ls)) (boards_show pit ls i given none)
