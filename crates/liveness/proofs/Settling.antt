-- Settling: nothing happens, or a block that is ready is handed over.
use Rattle.std.proofs.Common.{◌≡◌, ℕ, ◌+◌, ◌<◌, ◌≤◌, true, ◌&&◌, eqb, ltb, ◌⊎◌, List, [], ◌∷◌, ◌++◌, length, Some, None, sym, refl, ◌∙◌, subst, inl, inr, arith}
use mathlib.Core.List.{Memᴰ}
use Rattle.std.proofs.lemmas.Bool.{and_parts, and_from, eqb-true, eq-eqb, ltb-true, lt-ltb}
use Rattle.wire.specs.Format.{same_key}
use Rattle.wire.specs.declared.body.Body.{Body}
use Rattle.wire.specs.declared.key.Key.{Key}
use Rattle.rules.specs.declared.block.Block.{Block}
use Rattle.rules.specs.Blocks.{On, Slot, block_key, some_slot, held, swept}
use Rattle.rules.specs.Settle.{Settled, settle, settle_at, best, ready, confirms, certified, reaches, line, line_within}
use Rattle.rules.specs.State.{Ledger}
use Rattle.rules.specs.Options.{absent, same_some}
use Rattle.rules.specs.Shelves.{best_on, on_best, some_slot_on, on_some_slot, key_same, key_itself, on_swept, length-swept}
use Rattle.liveness.proofs.Lookup.{held_swept}

-- block c confirms block b
pub record Confirming (n : ℕ) (xs : List Slot) (b c : Block) : Type 0 where
  pub on : On c xs
  pub upon : c.body.parent ≡ block_key b
  pub next : c.body.view ≡ b.body.view + 1
  pub certain : certified n xs c ≡ true

-- block b can be handed over
pub record Ripe (n : ℕ) (g : Ledger) (b : Block) : Type 0 where
  pub on : On b g.shelf
  pub above : g.head.view < b.body.view
  pub child : Block
  pub confirmed : Confirming n g.shelf b child
  pub reaching : reaches g.shelf g.head b ≡ true

ripe_from : (n : ℕ) (g : Ledger) (b : Block) → On b g.shelf → ready n g.shelf g.head (Some b) ≡ true → Ripe n g b
ripe_from n g b o r =
    let a = and_parts (ltb g.head.view b.body.view) (some_slot (confirms n g.shelf b) g.shelf && reaches g.shelf g.head b) r in
    let c = and_parts (some_slot (confirms n g.shelf b) g.shelf) (reaches g.shelf g.head b) a.1 in
    let d = some_slot_on (confirms n g.shelf b) refl g.shelf c.0 in
    let e = and_parts (same_key d.0.body.parent (block_key b)) (eqb d.0.body.view (b.body.view + 1) && certified n g.shelf d.0) d.2 in
    let f = and_parts (eqb d.0.body.view (b.body.view + 1)) (certified n g.shelf d.0) e.1 in
    record {
      on = o;
      above = ltb-true _ _ a.0;
      child = d.0;
      confirmed = record { on = d.1; upon = key_same _ _ e.0; next = eqb-true _ _ f.0; certain = f.1 };
      reaching = c.1;
    }

pub ripe_ready : (n : ℕ) (g : Ledger) (b : Block) → Ripe n g b → ready n g.shelf g.head (Some b) ≡ true
ripe_ready n g b r =
    let c = r.confirmed in
    let same : same_key r.child.body.parent (block_key b) ≡ true =
    subst (λ (k : Key). same_key r.child.body.parent k ≡ true) c.upon (key_itself r.child.body.parent) in
    and_from (ltb g.head.view b.body.view) _ (lt-ltb _ _ r.above)
    (and_from (some_slot (confirms n g.shelf b) g.shelf) _
    (on_some_slot (confirms n g.shelf b) g.shelf r.child c.on (and_from _ _ same (and_from _ _ (eq-eqb _ _ c.next) c.certain)))
    r.reaching)

-- the ledger after the block b was handed over, with the line up to it
abbrev pub over : Block → Ledger → Settled
over b g =
    record {
      ledger =
          record {
            shelf = swept b.body.view g.shelf;
            top = g.top;
            head = block_key b;
            count = g.count + length (line g.shelf g.head b);
          };
      handed = line g.shelf g.head b;
    }

pub settle_ways :
    (n : ℕ) (g : Ledger) (P : Settled → Type 0) →
    (best (ready n g.shelf g.head) g.shelf ≡ None → P (record { ledger = g; handed = [] })) →
    ((b : Block) → best (ready n g.shelf g.head) g.shelf ≡ Some b → Ripe n g b → P (over b g)) → P (settle n g)
unfolding settle settle_at
settle_ways n g P none some = at (best (ready n g.shelf g.head) g.shelf) refl
  where
    at : (o : Slot) → best (ready n g.shelf g.head) g.shelf ≡ o → P (settle_at o g)
    at None e = none e
    at (Some b) e =
        let o = best_on (ready n g.shelf g.head) g.shelf b e in
        some b e (ripe_from n g b o.0 o.1)

-- the line up to a block ends with its body
line_ends : (xs : List Slot) (head : Key) (b : Block) → (zs : List Body) × (line xs head b ≡ zs ++ (b.body ∷ []))
unfolding line_within
line_ends xs head b = (_, refl)

pub member_last : (xs : List Body) (b : Body) → Memᴰ b (xs ++ (b ∷ []))
member_last [] b = Memᴰ.head refl
member_last (x ∷ xs) b = Memᴰ.tail (member_last xs b)

-- ---- what settling leaves

pub settled_length : (n : ℕ) (g : Ledger) → length (settle n g).ledger.shelf ≡ length g.shelf
settled_length n g =
    settle_ways n g (λ (t : Settled). length t.ledger.shelf ≡ length g.shelf) (λ _. refl) (λ b _ _. length-swept b.body.view g.shelf)

pub settled_on : (n : ℕ) (g : Ledger) (c : Block) → On c (settle n g).ledger.shelf → On c g.shelf
settled_on n g c =
    settle_ways n g (λ (t : Settled). On c t.ledger.shelf → On c g.shelf) (λ _ o. o) (λ b _ _ o. (on_swept b.body.view g.shelf c o).0)

pub settled_top : (n : ℕ) (g : Ledger) → (settle n g).ledger.top ≡ g.top
settled_top n g = settle_ways n g (λ (t : Settled). t.ledger.top ≡ g.top) (λ _. refl) (λ b _ _. refl)

pub settled_head : (n : ℕ) (g : Ledger) → g.head.view ≤ (settle n g).ledger.head.view
settled_head n g =
    settle_ways n g (λ (t : Settled). g.head.view ≤ t.ledger.head.view) (λ _. omega arith) (λ b _ r. omega (arith, r.above))

-- what is held above the head stays held
pub settled_held : (n : ℕ) (g : Ledger) (k : Key) (b : Block) → held k g.shelf ≡ Some b → (settle n g).ledger.head.view < k.view
    → held k (settle n g).ledger.shelf ≡ Some b
settled_held n g k b h =
    settle_ways n g (λ (t : Settled). t.ledger.head.view < k.view → held k t.ledger.shelf ≡ Some b)
    (λ _ l. h) (λ c _ _ l. held_swept c.body.view k g.shelf b h l)

-- where a block is ripe, settling moves the head to its view or above
pub ripe_moves : (n : ℕ) (g : Ledger) (b : Block) → Ripe n g b → b.body.view ≤ (settle n g).ledger.head.view
ripe_moves n g b r =
    settle_ways n g (λ (t : Settled). b.body.view ≤ t.ledger.head.view)
    (λ e. absent found.0 (sym e ∙ found.1))
    (λ d e _. subst (λ (x : Block). b.body.view ≤ x.body.view) (same_some found.0 d (sym found.1 ∙ e)) found.2)
  where
    found : (d : Block) × (best (ready n g.shelf g.head) g.shelf ≡ Some d) × (b.body.view ≤ d.body.view)
    found = on_best (ready n g.shelf g.head) g.shelf b r.on (ripe_ready n g b r)

-- settling leaves the head, or hands over a list of bodies that ends with the new head's
pub settled_hands : (n : ℕ) (g : Ledger)
    → ((settle n g).ledger.head ≡ g.head) ⊎ ((zs : List Body) × (b : Body) × ((settle n g).handed ≡ zs ++ (b ∷ [])))
settled_hands n g =
    settle_ways n g (λ (t : Settled). (t.ledger.head ≡ g.head) ⊎ ((zs : List Body) × (b : Body) × (t.handed ≡ zs ++ (b ∷ []))))
    (λ _. inl refl) (λ b _ _. let l = line_ends g.shelf g.head b in inr (l.0, b.body, l.1))
