-- Orders read one after another.
use Rattle.std.proofs.Common.{◌≡◌, ℕ, zero, suc, ◌+◌, ◌-◌, ◌*◌, ◌/◌, ◌<◌, ◌≤◌, cond, ltb, List, [], Option, None, Some, MatchOption, ◌++◌, length, get_or, take, drop, replicate, sym, refl, ap, ◌∙◌, ⊎_elim, arith}
use Rattle.std.proofs.lemmas.Bool.{cases_lt, lt-ltb, le-ltb}
use Rattle.std.proofs.lemmas.List.{drop-drop, drop-take, take-take, length-append, length-take, length-replicate, get_or_append_left, get_or-append_right, get_or-replicate}
use Rattle.std.proofs.lemmas.List.FromFn.{fill_by_all}
use Rattle.std.specs.Simd.{first_chunks}
use Rattle.std.specs.Slice.{IsItemAt}
use denote.Ref.{Bor}
use Rattle.wire.specs.Bytes.{field}
use Rattle.wire.specs.declared.order.Order.{Order}
use Rattle.wire.specs.declared.orders.Orders.{Orders}
use Rattle.wire.specs.Format.{blank, pack}
use Rattle.wire.specs.Read.{order_in, orders_in}
use Rattle.digest.proofs.Arrays.{chunk_at}

pub length-orders_in : (k : ℕ) (bs : List ℕ) → length (orders_in k bs) ≡ k
unfolding orders_in
length-orders_in zero bs = refl
length-orders_in (suc k) bs = ap suc (length-orders_in k (drop 8 bs))

-- order i of k
order_at : (k : ℕ) (bs : List ℕ) (i : ℕ) (d : Order) → i < k → get_or (orders_in k bs) i d ≡ order_in (field (8 * i) 8 bs)
unfolding orders_in
order_at zero bs i d h = absurd (omega arith)
order_at (suc k) bs zero d h = refl
order_at (suc k) bs (suc i) d h =
    let place : 8 + 8 * i ≡ 8 * suc i = omega arith in
    order_at k (drop 8 bs) i d (omega arith) ∙
    ap (λ (l : List ℕ). order_in (take 8 l)) (drop-drop (8 * i) 8 bs ∙ ap (λ (j : ℕ). drop j bs) place)

-- what stands at place i of a list with k orders
abbrev pub placed : ℕ → List ℕ → ℕ → Order
placed k bs i = cond (ltb i k) (order_in (field (8 * i) 8 bs)) blank

-- a part of the bytes cut into eights
part_at : (k : ℕ) (bs : List ℕ) (i : ℕ) → i < k → get_or (first_chunks 8 k (take (8 * k) bs)) i [] ≡ field (8 * i) 8 bs
part_at k bs i h =
    let m : 8 * i + (8 * k - 8 * i) ≡ 8 * k = omega arith in
    let at = chunk_at 8 k i (take (8 * k) bs) h in
    let cut = drop-take (8 * i) (8 * k - 8 * i) bs in
    let short = take-take 8 (8 * k - 8 * i) (drop (8 * i) bs) (omega arith) in
    cc

-- the part at place i, read as an order, if there is one, and else the blank
pub placed_is :
    (k : ℕ) (bs : List ℕ) → 8 * k ≤ length bs →
    (parts : List (List ℕ)) → parts ≡ first_chunks 8 (length (take (8 * k) bs) / 8) (take (8 * k) bs) → length parts ≡ length (take (8 * k) bs) / 8 →
    (i : ℕ) (o : Option (Bor (List ℕ))) (x : Order) → IsItemAt parts i o → MatchOption o (x ≡ blank) (λ p. x ≡ order_in p.now) → x ≡ placed k bs i
placed_is k bs room parts cut long i None x is e =
    let n : length (take (8 * k) bs) / 8 ≡ k = omega (arith, length-take {A = ℕ}) in
    let out : k ≤ i = let l : length parts ≤ i = is.3 in omega arith in
    e ∙ rw le-ltb
placed_is k bs room parts cut long i (Some p) x is e =
    let n : length (take (8 * k) bs) / 8 ≡ k = omega (arith, length-take {A = ℕ}) in
    let inside : i < k = let l : i < length parts = is.3.0 in omega arith in
    let here : p.now ≡ get_or parts i [] = is.3.1 [] in
    let first : parts ≡ first_chunks 8 k (take (8 * k) bs) = cc in
    let part = part_at k bs i inside in
    let same : p.now ≡ field (8 * i) 8 bs = cc in
    e ∙ (ap order_in same ∙ rw lt-ltb)

pub packed_orders : (k : ℕ) (bs : List ℕ) (os : Orders) → k ≤ 8 → length os.list ≡ 8 → ((i : ℕ) → i < 8 → get_or os.list i blank ≡ placed k bs i) → os.count ≡ k → os ≡ pack (orders_in k bs)
packed_orders k bs os few eight each count =
    let n = length-orders_in k bs in
    let all : List Order = orders_in k bs ++ replicate (8 - k) blank in
    let long : length all ≡ 8 = simp (length-append, length-replicate) (omega arith) in
    let mine = fill_by_all (placed k bs) os.list 8 blank eight each in
    let theirs = fill_by_all (placed k bs) all 8 blank long at in
    let same = mine ∙ sym theirs in
    grind arith
  where
    at : (i : ℕ) → i < 8 → get_or (orders_in k bs ++ replicate (8 - k) blank) i blank ≡ placed k bs i
    at i h =
        let n = length-orders_in k bs in
        ⊎_elim
        (λ l. get_or_append_left (orders_in k bs) _ blank i (omega arith) ∙ (order_at k bs i blank l ∙ rw lt-ltb))
        (λ l. get_or-append_right (orders_in k bs) _ k i blank n l ∙ (get_or-replicate (8 - k) (i - k) blank blank (omega arith) ∙ rw le-ltb))
        (cases_lt i k)
