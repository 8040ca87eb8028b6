-- A body and its bytes determine one another.
use Rattle.std.proofs.Common.{◌≡◌, ℕ, zero, suc, ◌+◌, ◌*◌, ◌<◌, ◌≤◌, true, ◌&&◌, eqb, List, [], ◌∷◌, ◌++◌, length, take, drop, codes, sym, refl, ap, ◌∙◌, subst, add_assoc, arith, eqb-true}
use Rattle.std.proofs.ByRecursion.{All-take, All-drop}
use Rattle.std.proofs.lemmas.Slice.Eq.{bytes_eq-Decides}
use Rattle.std.proofs.lemmas.List.{append-nil, append_assoc, nil_from_length, take-append-drop, take_at, drop_at, drop-drop, drop_all, length-take, length-drop}
use Rattle.std.proofs.lemmas.Bool.{cond_both, and_parts}
use Rattle.std.specs.List.{flat_map, AllByRecursion}
use Rattle.wire.specs.Bytes.{be, num, field, number, Octets}
use Rattle.wire.specs.Canon.{OrderFits, BodyFits}
use Rattle.wire.specs.Format.{order_bytes, key_bytes, body_bytes, pack, orders_of, well_formed}
use Rattle.wire.specs.Read.{marked, order_in, orders_in, body_in, key_at, all_well_formed, body_length}
use Rattle.wire.specs.declared.body.Body.{Body}
use Rattle.wire.specs.declared.order.Order.{Order}
use Rattle.wire.specs.declared.order.Order.TheVariants.{Send, Release, Load}
use Rattle.wire.proofs.Numbers.{num_be, be_num}
use Rattle.wire.proofs.Sequences.{length-orders_in}
use Rattle.wire.proofs.Sizes.{length_order}

-- Values first: what is written reads back.

pub order_forth : (o : Order) → OrderFits o → order_in (order_bytes o) ≡ o
unfolding be num order_in
order_forth (Send truck place) h = λ i. Send (num_be 2 truck h.0 i) (num_be 2 place h.1 i)
order_forth (Release truck) h = λ i. Release (num_be 2 truck h i)
order_forth (Load truck place amount) h = λ i. Load (num_be 2 truck h.0 i) (num_be 2 place h.1 i) (num_be 2 amount h.2 i)

pub orders_forth : (os : List Order) → AllByRecursion OrderFits os → orders_in (length os) (flat_map order_bytes os) ≡ os
unfolding orders_in
orders_forth [] h = refl
orders_forth (o ∷ os) h =
    let t = take_at (order_bytes o) (flat_map order_bytes os) 8 (length_order o) in
    let d = drop_at (order_bytes o) (flat_map order_bytes os) 8 (length_order o) in
    λ i. (ap order_in t ∙ order_forth o h.0) i ∷ (ap (orders_in (length os)) d ∙ orders_forth os h.1) i

pub body_forth : (b : Body) → BodyFits b → body_in (body_bytes b) ≡ b
unfolding be num body_bytes body_in
body_forth b h =
    let os = orders_of b.orders in
    let x : List ℕ = be 1 (length os) ++ flat_map order_bytes os in
    let name = take_at b.parent.name x 32 h.parent.name in
    let past : drop 32 (b.parent.name ++ x) ≡ x = drop_at b.parent.name x 32 h.parent.name in
    let past' : drop 33 (b.parent.name ++ x) ≡ flat_map order_bytes os = sym (drop-drop 1 32 (b.parent.name ++ x)) ∙ ap (drop 1) past in
    let few = h.few in
    let count : number 32 1 (b.parent.name ++ x) ≡ length os = ap (λ (l : List ℕ). num (take 1 l)) past ∙ num_be 1 (length os) (omega arith) in
    let read : pack (orders_in (number 32 1 (b.parent.name ++ x)) (drop 33 (b.parent.name ++ x))) ≡ b.orders =
    ap (λ (k : ℕ). pack (orders_in k (drop 33 (b.parent.name ++ x)))) count ∙
    (ap (λ (l : List ℕ). pack (orders_in (length os) l)) past' ∙ (ap pack (orders_forth os h.orders) ∙ sym h.packed)) in
    λ i. record {
      view = num_be 4 b.view h.view i;
      parent = record { view = num_be 4 b.parent.view h.parent.view i; name = name i };
      orders = read i;
    }

-- Bytes first.

pub cut : (at len : ℕ) (bs : List ℕ) → drop at bs ≡ field at len bs ++ drop (at + len) bs
cut at len bs = sym (take-append-drop len (drop at bs)) ∙ ap (λ (l : List ℕ). field at len bs ++ l) (drop-drop len at bs)

pub octets_field : (at len : ℕ) (bs : List ℕ) → Octets bs → Octets (field at len bs)
octets_field at len bs o = All-take (λ (b : ℕ). b < 256) len (drop at bs) (All-drop (λ (b : ℕ). b < 256) at bs o)

pub be_field : (at w : ℕ) (bs : List ℕ) → Octets bs → at + w ≤ length bs → be w (number at w bs) ≡ field at w bs
be_field at w bs o h =
    let len : length (field at w bs) ≡ w = simp (length-take, length-drop) (omega arith) in
    subst (λ (n : ℕ). be n (number at w bs) ≡ field at w bs) len (be_num (field at w bs) (octets_field at w bs o))

-- view and name
pub cut_key : (at : ℕ) (bs : List ℕ) → drop at bs ≡ (field at 4 bs ++ field (at + 4) 32 bs) ++ drop (at + 36) bs
cut_key at bs =
    cut at 4 bs ∙ (ap (λ (l : List ℕ). field at 4 bs ++ l) (cut (at + 4) 32 bs) ∙
    (sym (append_assoc (field at 4 bs) (field (at + 4) 32 bs) _) ∙
    ap (λ (j : ℕ). (field at 4 bs ++ field (at + 4) 32 bs) ++ drop j bs) (add_assoc at 4 32)))

pub key_back : (at : ℕ) (bs : List ℕ) → Octets bs → at + 36 ≤ length bs → key_bytes (key_at at bs) ++ drop (at + 36) bs ≡ drop at bs
key_back at bs o h =
    let v = be_field at 4 bs o (omega arith) in
    (λ i. (v i ++ field (at + 4) 32 bs) ++ drop (at + 36) bs) ∙ sym (cut_key at bs)

pub mark_is : (mark bs : List ℕ) → marked mark bs ≡ true → mark ≡ take 2 bs
mark_is mark bs m = sym ((bytes_eq-Decides (take 2 bs) mark).0 m)

order_shape : (bs : List ℕ) → length bs ≡ 8 → Octets bs → take 2 bs ++ (be 2 (number 2 2 bs) ++ (be 2 (number 4 2 bs) ++ be 2 (number 6 2 bs))) ≡ bs
order_shape bs h o =
    let e = drop_all 8 bs (omega arith) in
    let a = be_field 2 2 bs o (omega arith) in
    let b = be_field 4 2 bs o (omega arith) in
    let c = be_field 6 2 bs o (omega arith) in
    let last : drop 6 bs ≡ be 2 (number 6 2 bs) = cut 6 2 bs ∙ (ap (λ (l : List ℕ). field 6 2 bs ++ l) e ∙ (append-nil (field 6 2 bs) ∙ sym c)) in
    sym (cut 0 2 bs ∙ ap (λ (l : List ℕ). take 2 bs ++ l)
    (cut 2 2 bs ∙ (ap (λ (l : List ℕ). l ++ drop 4 bs) (sym a) ∙ ap (λ (l : List ℕ). be 2 (number 2 2 bs) ++ l)
    (cut 4 2 bs ∙ (ap (λ (l : List ℕ). l ++ drop 6 bs) (sym b) ∙ ap (λ (l : List ℕ). be 2 (number 4 2 bs) ++ l) last)))))

pub order_back : (bs : List ℕ) → length bs ≡ 8 → Octets bs → well_formed (order_in bs) ≡ true → order_bytes (order_in bs) ≡ bs
unfolding order_in
order_back bs h o =
    let P : Order → Type 0 = λ x. well_formed x ≡ true → order_bytes x ≡ bs in
    let shape = order_shape bs h o in
    cond_both (marked (codes "SD") bs && eqb (number 6 2 bs) 0) _ _ P
    (λ e w. let m = and_parts _ _ e in
    ap (λ (l : List ℕ). l ++ (be 2 (number 2 2 bs) ++ (be 2 (number 4 2 bs) ++ be 2 0))) (mark_is (codes "SD") bs m.0) ∙
    (ap (λ (n : ℕ). take 2 bs ++ (be 2 (number 2 2 bs) ++ (be 2 (number 4 2 bs) ++ be 2 n))) (sym (eqb-true _ _ m.1)) ∙ shape))
    (λ _. cond_both (marked (codes "RL") bs && (eqb (number 4 2 bs) 0 && eqb (number 6 2 bs) 0)) _ _ P
    (λ e w. let m = and_parts _ _ e in let q = and_parts _ _ m.1 in
    ap (λ (l : List ℕ). l ++ (be 2 (number 2 2 bs) ++ (be 2 0 ++ be 2 0))) (mark_is (codes "RL") bs m.0) ∙
    (ap (λ (n : ℕ). take 2 bs ++ (be 2 (number 2 2 bs) ++ (be 2 n ++ be 2 0))) (sym (eqb-true _ _ q.0)) ∙
    (ap (λ (n : ℕ). take 2 bs ++ (be 2 (number 2 2 bs) ++ (be 2 (number 4 2 bs) ++ be 2 n))) (sym (eqb-true _ _ q.1)) ∙ shape)))
    (λ _. cond_both (marked (codes "LD") bs) _ _ P
    (λ e w. ap (λ (l : List ℕ). l ++ (be 2 (number 2 2 bs) ++ (be 2 (number 4 2 bs) ++ be 2 (number 6 2 bs)))) (mark_is (codes "LD") bs e) ∙ shape)
    (λ _ w. let z : ◌≡◌ {A = ℕ} 0 1 = cc in absurd (omega arith))))

pub orders_back : (k : ℕ) (bs : List ℕ) → length bs ≡ 8 * k → Octets bs → all_well_formed (orders_in k bs) ≡ true → flat_map order_bytes (orders_in k bs) ≡ bs
unfolding orders_in all_well_formed
orders_back zero bs h o w = sym (nil_from_length bs (omega arith))
orders_back (suc k) bs h o w =
    let m = and_parts (well_formed (order_in (take 8 bs))) (all_well_formed (orders_in k (drop 8 bs))) w in
    let eight : length (take 8 bs) ≡ 8 = simp length-take (omega arith) in
    let rest : length (drop 8 bs) ≡ 8 * k = simp length-drop (omega arith) in
    let a = order_back (take 8 bs) eight (All-take (λ (b : ℕ). b < 256) 8 bs o) m.0 in
    let b = orders_back k (drop 8 bs) rest (All-drop (λ (b : ℕ). b < 256) 8 bs o) m.1 in
    (λ i. a i ++ b i) ∙ take-append-drop 8 bs

pub orders_packed : (os : List Order) → orders_of (pack os) ≡ os
orders_packed os = take_at os _ (length os) refl

pub body_back : (bs : List ℕ) → length bs ≡ body_length bs → Octets bs → marked (codes "BD") bs ≡ true → all_well_formed (orders_of (body_in bs).orders) ≡ true → body_bytes (body_in bs) ≡ bs
unfolding body_in body_bytes
body_back bs h o m w =
    let k = number 42 1 bs in
    let os = orders_in (number 42 1 bs) (drop 43 bs) in
    let packed = orders_packed (orders_in (number 42 1 bs) (drop 43 bs)) in
    let rest : length (drop 43 bs) ≡ 8 * number 42 1 bs = simp length-drop (omega arith) in
    let formed : all_well_formed (orders_in (number 42 1 bs) (drop 43 bs)) ≡ true = ap all_well_formed (sym packed) ∙ w in
    let orders = ap (flat_map order_bytes) packed ∙ orders_back (number 42 1 bs) (drop 43 bs) rest (All-drop (λ (b : ℕ). b < 256) 43 bs o) formed in
    let count = ap (λ (l : List Order). be 1 (length l)) packed ∙ (ap (be 1) (length-orders_in (number 42 1 bs) (drop 43 bs)) ∙ be_field 42 1 bs o (omega arith)) in
    let view = be_field 2 4 bs o (omega arith) in
    let key = key_back 6 bs o (omega arith) in
    (λ i. mark_is (codes "BD") bs m i ++ (view i ++ (key_bytes (key_at 6 bs) ++ (count i ++ orders i)))) ∙
    sym (cut 0 2 bs ∙ ap (λ (l : List ℕ). take 2 bs ++ l)
    (cut 2 4 bs ∙ ap (λ (l : List ℕ). field 2 4 bs ++ l)
    (sym key ∙ ap (λ (l : List ℕ). key_bytes (key_at 6 bs) ++ l) (cut 42 1 bs))))
