-- Tests whether two values are the same.
use Rattle.std.proofs.Common.{◌≡◌, ℕ, Bool, true, false, not, ◌&&◌, T, eqb, List, [], ◌∷◌, sym, refl, ap, subst, ap₂, eqb→eq}
use mathlib.Core.List.{Memᴰ}
use lib.Dec.{eqb_refl}
use Rattle.std.proofs.lemmas.Slice.Eq.{bytes_eq-Decides}
use Rattle.std.specs.Str.{bytes_eq}
use Rattle.wire.specs.Format.{same_key}
use Rattle.wire.specs.declared.body.Body.{Body}
use Rattle.wire.specs.declared.key.Key.{Key}
use Rattle.wire.specs.declared.order.Order.{Order}
use Rattle.wire.specs.declared.order.Order.TheVariants.{Send, Release, Load}
use Rattle.wire.specs.declared.orders.Orders.{Orders}
use Rattle.wire.specs.declared.statement.Purpose.{Purpose}
use Rattle.wire.specs.declared.statement.Purpose.TheVariants as purpose
use Rattle.wire.specs.declared.statement.Statement.{Statement}
use Rattle.rules.specs.Step.{Owed}
use Rattle.witness.proofs.Tests.{any_of, both, joint, one_of}

is_true : (b : Bool) → T b → b ≡ true
is_true true t = refl
is_true false t = absurd t

pub same_bytes : (xs ys : List ℕ) → T (bytes_eq xs ys) → xs ≡ ys
same_bytes xs ys t = (bytes_eq-Decides xs ys).0 (is_true (bytes_eq xs ys) t)

pub bytes_same : (xs ys : List ℕ) → xs ≡ ys → T (bytes_eq xs ys)
bytes_same xs ys e = subst (λ b. T b) (sym ((bytes_eq-Decides xs ys).1 e)) tt

pub not_same_bytes : (xs ys : List ℕ) → T (not (bytes_eq xs ys)) → xs ≡ ys → ⊥
not_same_bytes xs ys t e =
    subst (λ b. T (not b)) ((bytes_eq-Decides xs ys).1 e) t

pub key_is : (a b : Key) → T (same_key a b) → a ≡ b
key_is a b t =
    let parts = both (eqb a.view b.view) (bytes_eq a.name b.name) t in
    let view : a.view ≡ b.view = eqb→eq a.view b.view parts.0 in
    let name : a.name ≡ b.name = same_bytes a.name b.name parts.1 in
    λ i. record { view = view i; name = name i }

abbrev pub same_purpose : Purpose → Purpose → Bool
same_purpose purpose.Propose purpose.Propose = true
same_purpose purpose.Propose purpose.Vote = false
same_purpose purpose.Vote purpose.Propose = false
same_purpose purpose.Vote purpose.Vote = true

purpose_is : (a b : Purpose) → T (same_purpose a b) → a ≡ b
purpose_is purpose.Propose purpose.Propose t = refl
purpose_is purpose.Propose purpose.Vote t = absurd t
purpose_is purpose.Vote purpose.Propose t = absurd t
purpose_is purpose.Vote purpose.Vote t = refl

abbrev pub same_statement : Statement → Statement → Bool
same_statement a b = same_purpose a.purpose b.purpose && same_key a.block b.block

pub statement_is : (a b : Statement) → T (same_statement a b) → a ≡ b
statement_is a b t =
    let parts = both (same_purpose a.purpose b.purpose) (same_key a.block b.block) t in
    let kind : a.purpose ≡ b.purpose = purpose_is a.purpose b.purpose parts.0 in
    let block : a.block ≡ b.block = key_is a.block b.block parts.1 in
    λ i. record { purpose = kind i; block = block i }

abbrev pub same_owed : Owed → Owed → Bool
same_owed a b = eqb a.console b.console && eqb a.view b.view

pub owed_is : (a b : Owed) → T (same_owed a b) → a ≡ b
owed_is a b t =
    let parts = both (eqb a.console b.console) (eqb a.view b.view) t in
    let console : a.console ≡ b.console = eqb→eq a.console b.console parts.0 in
    let view : a.view ≡ b.view = eqb→eq a.view b.view parts.1 in
    λ i. record { console = console i; view = view i }

pub same_owed_refl : (owed : Owed) → T (same_owed owed owed)
same_owed_refl owed =
    joint (eqb owed.console owed.console) (eqb owed.view owed.view) (eqb_refl owed.console) (eqb_refl owed.view)

abbrev pub same_order : Order → Order → Bool
same_order (Send t p) (Send u q) = eqb t u && eqb p q
same_order (Send t p) (Release u) = false
same_order (Send t p) (Load u q b) = false
same_order (Release t) (Send u q) = false
same_order (Release t) (Release u) = eqb t u
same_order (Release t) (Load u q b) = false
same_order (Load t p a) (Send u q) = false
same_order (Load t p a) (Release u) = false
same_order (Load t p a) (Load u q b) = eqb t u && (eqb p q && eqb a b)

order_is : (x y : Order) → T (same_order x y) → x ≡ y
order_is (Send t p) (Send u q) s =
    let parts = both (eqb t u) (eqb p q) s in
    ap₂ Send (eqb→eq t u parts.0) (eqb→eq p q parts.1)
order_is (Send t p) (Release u) s = absurd s
order_is (Send t p) (Load u q b) s = absurd s
order_is (Release t) (Send u q) s = absurd s
order_is (Release t) (Release u) s = ap Release (eqb→eq t u s)
order_is (Release t) (Load u q b) s = absurd s
order_is (Load t p a) (Send u q) s = absurd s
order_is (Load t p a) (Release u) s = absurd s
order_is (Load t p a) (Load u q b) s =
    let parts = both (eqb t u) (eqb p q && eqb a b) s in
    let more = both (eqb p q) (eqb a b) parts.1 in
    let truck = eqb→eq t u parts.0 in
    let place = eqb→eq p q more.0 in
    let amount = eqb→eq a b more.1 in
    λ i. Load (truck i) (place i) (amount i)

abbrev pub same_list : List Order → List Order → Bool
same_list [] [] = true
same_list [] (y ∷ ys) = false
same_list (x ∷ xs) [] = false
same_list (x ∷ xs) (y ∷ ys) = same_order x y && same_list xs ys

list_is : (xs ys : List Order) → T (same_list xs ys) → xs ≡ ys
list_is [] [] t = refl
list_is [] (y ∷ ys) t = absurd t
list_is (x ∷ xs) [] t = absurd t
list_is (x ∷ xs) (y ∷ ys) t =
    let parts = both (same_order x y) (same_list xs ys) t in
    ap₂ (λ o os. o ∷ os) (order_is x y parts.0) (list_is xs ys parts.1)

abbrev pub same_orders : Orders → Orders → Bool
same_orders a b = eqb a.count b.count && same_list a.list b.list

abbrev pub same_body : Body → Body → Bool
same_body a b = eqb a.view b.view && (same_key a.parent b.parent && same_orders a.orders b.orders)

pub body_is : (a b : Body) → T (same_body a b) → a ≡ b
body_is a b t =
    let parts = both (eqb a.view b.view) (same_key a.parent b.parent && same_orders a.orders b.orders) t in
    let more = both (same_key a.parent b.parent) (same_orders a.orders b.orders) parts.1 in
    let both_orders = both (eqb a.orders.count b.orders.count) (same_list a.orders.list b.orders.list) more.1 in
    let view = eqb→eq a.view b.view parts.0 in
    let parent = key_is a.parent b.parent more.0 in
    let count = eqb→eq a.orders.count b.orders.count both_orders.0 in
    let list = list_is a.orders.list b.orders.list both_orders.1 in
    λ i. record { view = view i; parent = parent i; orders = record { list = list i; count = count i } }

pub body_among : (b : Body) (xs : List Body) → T (any_of (λ x. same_body x b) xs) → Memᴰ b xs
body_among b xs t =
    let found = one_of (λ x. same_body x b) xs t in
    subst (λ x. Memᴰ x xs) (body_is found.0 b found.2) found.1
