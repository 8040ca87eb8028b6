-- Lines of held parents: views fall along them, so that any number of steps above the view will do.
use Rattle.std.proofs.Common.{◌≡◌, ℕ, zero, suc, ◌+◌, ◌<◌, ◌≤◌, Bool, true, false, cond, ◌||◌, ltb, List, [], ◌∷◌, ◌++◌, length, Some, None, sym, refl, ap, ◌∙◌, ⊎_elim, arith}
use Rattle.std.proofs.lemmas.List.{append-nil, append_assoc, length_push}
use Rattle.std.proofs.lemmas.Bool.{cases_Bool, cond-false, cond_both, ltb-true}
use Rattle.parts.specs.Fed.{fed}
use Rattle.rules.specs.Blocks.{Slot, held}
use Rattle.rules.specs.Options.{absent}
use Rattle.rules.specs.Settle.{parent_of, reaches_within, reaches, line_within, line}
use Rattle.rules.specs.declared.block.Block.{Block}
use Rattle.rules.specs.Shelves.{held_on}
use Rattle.wire.specs.Format.{orders_of}
use Rattle.wire.specs.Format.{same_key}
use Rattle.wire.specs.declared.body.Body.{Body}
use Rattle.wire.specs.declared.key.Key.{Key}
use Rattle.wire.specs.declared.order.Order.{Order}
use Rattle.sheets.specs.Sheet.{all_orders}

pub parent_below : (xs : List Slot) (b p : Block) → parent_of xs b ≡ Some p → p.body.view < b.body.view
parent_below xs b p =
    cond_both (ltb b.body.parent.view b.body.view) (held b.body.parent xs) None
    (λ x. x ≡ Some p → p.body.view < b.body.view)
    (λ t e. let v = ap (λ (k : Key). k.view) (held_on b.body.parent xs p e).1 in omega (arith, ltb-true _ _ t))
    (λ t e. absurd (let z : ◌≡◌ {A = ℕ} 0 1 = cc in omega arith))

-- what is said of a slot's block, or `none`
abbrev onward : {A : Type 0} → A → (Block → A) → Slot → A
onward none f None = none
onward none f (Some p) = f p

onward_same :
    {A : Type 0} (none : A) (f g : Block → A) (x : Slot) →
    ((p : Block) → x ≡ Some p → f p ≡ g p) → onward none f x ≡ onward none g x
onward_same none f g None h = refl
onward_same none f g (Some p) h = h p refl

reaches_step :
    (m : ℕ) (xs : List Slot) (head : Key) (b : Block) →
    reaches_within (suc m) xs head b ≡ (same_key b.body.parent head || onward false (reaches_within m xs head) (parent_of xs b))
unfolding reaches_within
reaches_step m xs head b = ap (λ (t : Bool). same_key b.body.parent head || t) (as_onward (parent_of xs b))
  where
    as_onward : (x : Slot) → elim x [ None ↦ false | Some p ↦ reaches_within m xs head p ] ≡ onward false (reaches_within m xs head) x
    as_onward None = refl
    as_onward (Some p) = refl

line_step :
    (m : ℕ) (xs : List Slot) (head : Key) (b : Block) →
    line_within (suc m) xs head b ≡ cond (same_key b.body.parent head) [] (onward [] (line_within m xs head) (parent_of xs b)) ++ (b.body ∷ [])
unfolding line_within
line_step m xs head b = ap (λ (t : List Body). cond (same_key b.body.parent head) [] t ++ (b.body ∷ [])) (as_onward (parent_of xs b))
  where
    as_onward : (x : Slot) → elim x [ None ↦ [] | Some p ↦ line_within m xs head p ] ≡ onward [] (line_within m xs head) x
    as_onward None = refl
    as_onward (Some p) = refl

reaches_fuel :
    (m k : ℕ) (xs : List Slot) (head : Key) (b : Block) →
    b.body.view < m → b.body.view < k → reaches_within m xs head b ≡ reaches_within k xs head b
reaches_fuel zero k xs head b = λ l r. absurd (omega arith)
reaches_fuel (suc m) zero xs head b = λ l r. absurd (omega arith)
reaches_fuel (suc m) (suc k) xs head b = λ l r.
    let on =
    onward_same false (reaches_within m xs head) (reaches_within k xs head) (parent_of xs b)
    (λ p e. let v = parent_below xs b p e in reaches_fuel m k xs head p (omega arith) (omega arith)) in
    reaches_step m xs head b ∙ ap (λ (t : Bool). same_key b.body.parent head || t) on ∙ sym (reaches_step k xs head b)

line_fuel :
    (m k : ℕ) (xs : List Slot) (head : Key) (b : Block) →
    b.body.view < m → b.body.view < k → line_within m xs head b ≡ line_within k xs head b
line_fuel zero k xs head b = λ l r. absurd (omega arith)
line_fuel (suc m) zero xs head b = λ l r. absurd (omega arith)
line_fuel (suc m) (suc k) xs head b = λ l r.
    let on =
    onward_same [] (line_within m xs head) (line_within k xs head) (parent_of xs b)
    (λ p e. let v = parent_below xs b p e in line_fuel m k xs head p (omega arith) (omega arith)) in
    line_step m xs head b ∙ ap (λ (t : List Body). cond (same_key b.body.parent head) [] t ++ (b.body ∷ [])) on ∙ sym (line_step k xs head b)

-- one step along a line: it is at the head, goes on to a held parent, or ends
pub reaches_here :
    (xs : List Slot) (head : Key) (b : Block) → same_key b.body.parent head ≡ true → reaches xs head b ≡ true
reaches_here xs head b e =
    let s = reaches_step b.body.view xs head b in
    s ∙ ap (λ (t : Bool). t || onward false (reaches_within b.body.view xs head) (parent_of xs b)) e

pub reaches_on :
    (xs : List Slot) (head : Key) (b p : Block) →
    same_key b.body.parent head ≡ false → parent_of xs b ≡ Some p → reaches xs head b ≡ reaches xs head p
reaches_on xs head b p e q =
    reaches_step b.body.view xs head b ∙ ap (λ (t : Bool). t || onward false (reaches_within b.body.view xs head) (parent_of xs b)) e
    ∙ ap (onward false (reaches_within b.body.view xs head)) q
    ∙ (let v = parent_below xs b p q in reaches_fuel b.body.view (suc p.body.view) xs head p (omega arith) (omega arith))

pub reaches_end :
    (xs : List Slot) (head : Key) (b : Block) →
    same_key b.body.parent head ≡ false → parent_of xs b ≡ None → reaches xs head b ≡ false
reaches_end xs head b e q =
    reaches_step b.body.view xs head b ∙ ap (λ (t : Bool). t || onward false (reaches_within b.body.view xs head) (parent_of xs b)) e
    ∙ ap (onward false (reaches_within b.body.view xs head)) q

pub line_here :
    (xs : List Slot) (head : Key) (b : Block) → same_key b.body.parent head ≡ true → line xs head b ≡ b.body ∷ []
line_here xs head b e =
    line_step b.body.view xs head b ∙ ap (λ (t : Bool). cond t [] (onward [] (line_within b.body.view xs head) (parent_of xs b)) ++ (b.body ∷ [])) e

pub line_on :
    (xs : List Slot) (head : Key) (b p : Block) →
    same_key b.body.parent head ≡ false → parent_of xs b ≡ Some p → line xs head b ≡ line xs head p ++ (b.body ∷ [])
line_on xs head b p e q =
    line_step b.body.view xs head b ∙ ap (λ (t : Bool). cond t [] (onward [] (line_within b.body.view xs head) (parent_of xs b)) ++ (b.body ∷ [])) e
    ∙ ap (λ (x : Slot). onward [] (line_within b.body.view xs head) x ++ (b.body ∷ [])) q
    ∙ (let v = parent_below xs b p q in ap (λ (t : List Body). t ++ (b.body ∷ [])) (line_fuel b.body.view (suc p.body.view) xs head p (omega arith) (omega arith)))

pub line_end :
    (xs : List Slot) (head : Key) (b : Block) →
    same_key b.body.parent head ≡ false → parent_of xs b ≡ None → line xs head b ≡ b.body ∷ []
line_end xs head b e q =
    line_step b.body.view xs head b ∙ ap (λ (t : Bool). cond t [] (onward [] (line_within b.body.view xs head) (parent_of xs b)) ++ (b.body ∷ [])) e
    ∙ ap (λ (x : Slot). onward [] (line_within b.body.view xs head) x ++ (b.body ∷ [])) q

-- orders given one body after the other
pub fed-append :
    {W : Type 0} (rule : W → Order → W) (w : W) (xs ys : List Order) → fed rule w (xs ++ ys) ≡ fed rule (fed rule w xs) ys
unfolding fed
fed-append rule w [] ys = refl
fed-append rule w (x ∷ xs) ys = fed-append rule (rule w x) xs ys

pub orders_append : (xs ys : List Body) → all_orders (xs ++ ys) ≡ all_orders xs ++ all_orders ys
unfolding all_orders
orders_append [] ys = refl
orders_append (x ∷ xs) ys =
    ap (λ (t : List Order). orders_of x.orders ++ t) (orders_append xs ys) ∙ sym (append_assoc (orders_of x.orders) (all_orders xs) (all_orders ys))

pub orders_one : (b : Body) → all_orders (b ∷ []) ≡ orders_of b.orders
unfolding all_orders
orders_one b = append-nil (orders_of b.orders)

pub fed_none : {W : Type 0} (rule : W → Order → W) (w : W) → fed rule w (all_orders []) ≡ w
unfolding fed all_orders
fed_none rule w = refl

-- a body's orders come after those of the bodies before it
fed_last :
    {W : Type 0} (rule : W → Order → W) (w after end : W) (bs all : List Body) (b : Body) (os : List Order) →
    all ≡ bs ++ (b ∷ []) → os ≡ orders_of b.orders →
    after ≡ fed rule w (all_orders bs) → end ≡ fed rule after os → end ≡ fed rule w (all_orders all)
fed_last rule w after end bs all b os l o e f =
    let a = fed-append rule w (all_orders bs) (orders_of b.orders) in
    let p = orders_append bs (b ∷ []) in
    let q = orders_one b in
    cc

-- the block before b on its line, if b is not the first after the head
abbrev pub before : List Slot → Key → Block → Slot
before xs head b = cond (same_key b.body.parent head) None (parent_of xs b)

went_on : (s : Bool) (x : Slot) (p : Block) → Some p ≡ cond s None x → (s ≡ false) × (x ≡ Some p)
went_on true x p e = absent p (sym e)
went_on false x p e = (refl, sym e)

pub before_below : (xs : List Slot) (head : Key) (b p : Block) → Some p ≡ before xs head b → p.body.view < b.body.view
before_below xs head b p e = parent_below xs b p (went_on (same_key b.body.parent head) (parent_of xs b) p e).1

line_first : (xs : List Slot) (head : Key) (b : Block) → ◌≡◌ {A = Slot} None (before xs head b) → line xs head b ≡ b.body ∷ []
line_first xs head b e =
    ⊎_elim (line_here xs head b)
    (λ f. line_end xs head b f (sym (e ∙ cond-false (same_key b.body.parent head) None (parent_of xs b) f)))
    (cases_Bool (same_key b.body.parent head))

-- r blocks were handed over up to b, which led the board from w to `end`
pub record Hands {W : Type 0} (rule : W → Order → W) (xs : List Slot) (head : Key) (b : Block) (w end : W) (r : ℕ) : Type 0 where
  pub number : r ≡ length (line xs head b)
  pub fits : r ≤ b.body.view + 1
  pub after : end ≡ fed rule w (all_orders (line xs head b))

pub hands_on :
    {W : Type 0} (rule : W → Order → W) (xs : List Slot) (head : Key) (b p : Block) (w mid end : W) (older : ℕ) (os : List Order) →
    Some p ≡ before xs head b → Hands rule xs head p w mid older →
    os ≡ orders_of b.body.orders → end ≡ fed rule mid os → Hands rule xs head b w end (older + 1)
hands_on rule xs head b p w mid end older os g h o e =
    let s = went_on (same_key b.body.parent head) (parent_of xs b) p g in
    let l = line_on xs head b p s.0 s.1 in
    let v = parent_below xs b p s.1 in
    let n = h.number in
    let f = h.fits in
    record {
      number = ap (λ (k : ℕ). k + 1) n ∙ sym (ap length l ∙ length_push (line xs head p) b.body);
      fits = omega arith;
      after = fed_last rule w mid end (line xs head p) (line xs head b) b.body os l o h.after e;
    }

pub hands_first :
    {W : Type 0} (rule : W → Order → W) (xs : List Slot) (head : Key) (b : Block) (w end : W) (os : List Order) →
    ◌≡◌ {A = Slot} None (before xs head b) → os ≡ orders_of b.body.orders → end ≡ fed rule w os → Hands rule xs head b w end 1
hands_first rule xs head b w end os g o e =
    let l = line_first xs head b g in
    record {
      number = sym (ap length l);
      fits = omega arith;
      after = fed_last rule w w end [] (line xs head b) b.body os l o (sym (fed_none rule w)) e;
    }
