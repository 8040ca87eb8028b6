-- What a ledger keeps on top of what safety asks: views that were reached, seals that are accepted, a top certificate
-- that is no older than any tally with a quorum.
use Rattle.std.proofs.Common.{◌≡◌, ℕ, zero, suc, ◌/◌, ◌%◌, ◌^◌, ◌<◌, ◌≤◌, true, false, not, eqb, ltb, ◌⊎◌, List, [], length, get_or, set, Some, sym, refl, ap, ◌∙◌, subst, inl, inr, ⊎_elim, arith, length-set, get_or-set_other, get_or-set_same, pow_pos}
use native.Mathlib.Nat.{div-eq_of_lt}
use lib.Bits.{bit_or}
use lib.Count.{ones}
use Rattle.std.proofs.lemmas.Bool.{cases_Bool, cases_eq, cond_both, and_parts, and_from, and_cases, or_left, or_right, both_ways, eqb-true, eq-eqb, not-false}
use Rattle.std.proofs.lemmas.Bool.Decides.{nat_tests}
use Rattle.votes.specs.Quorum.{Holds, is_quorum}
use Rattle.votes.proofs.Sets.{holds_entered}
use Rattle.wire.specs.Format.{signed, no_signers}
use Rattle.wire.specs.declared.certificate.Certificate.{Certificate}
use Rattle.wire.specs.declared.certificate.Signers.{Signers}
use Rattle.wire.specs.declared.key.Key.{Key}
use Rattle.rules.specs.declared.block.Block.{Block}
use Rattle.rules.specs.Blocks.{On, block_key, held}
use Rattle.rules.specs.Hear.{votes_for, seals_accepted, certificate_stands}
use Rattle.rules.specs.Settle.{Settled, settle, placed, higher_certificate, with_top, joined, with_tally, completes, top_after}
use Rattle.rules.specs.State.{Ledger, Table, empty_ledger}
use Rattle.rules.specs.Shelves.{held_on, on_put, on_swept, none_on}
use Rattle.liveness.proofs.Lookup.{entered, on_replaced}
use Rattle.liveness.proofs.Settling.{settle_ways}

-- ---- tests

-- nobody is no quorum
pub nobody : (n : ℕ) → 1 ≤ n → is_quorum n 0 ≡ false
unfolding ones
nobody n l = let o : ones 0 ≡ 0 = refl in grind (arith, nat_tests)

signed_holds : (q i : ℕ) → signed q i ≡ true → Holds q i
signed_holds q i e = eqb-true (q / 2 ^ i % 2) 1 e

pub holds_signed : (q i : ℕ) → Holds q i → signed q i ≡ true
holds_signed q i e = eq-eqb (q / 2 ^ i % 2) 1 e

none_signed : (i : ℕ) → signed 0 i ≡ true → ⊥
none_signed i e = omega (arith, signed_holds 0 i e, div-eq_of_lt (pow_pos i))

-- ---- seals

-- each signer's seal is accepted
abbrev pub Accepted : Table → Key → Signers → Type 0
Accepted table k t =
    (m : ℕ) → m < 16 → signed t.set m ≡ true → table m (votes_for k) (get_or t.seals m []) ≡ true

accepted_below : (table : Table) (k : Key) (t : Signers) → Accepted table k t → (j : ℕ) → j ≤ 16 → seals_accepted table k t j ≡ true
unfolding seals_accepted
accepted_below table k t a zero l = refl
accepted_below table k t a (suc j) l =
    and_from (seals_accepted table k t j) _ (accepted_below table k t a j (omega arith))
    (⊎_elim
    (λ e. or_right (not (signed t.set j)) _ (a j (omega arith) e))
    (λ e. or_left (not (signed t.set j)) _ (ap not e))
    (cases_Bool (signed t.set j)))

-- ---- the higher certificate

pub higher_above : (top new : Certificate)
    → (top.block.view ≤ (higher_certificate top new).block.view) × (new.block.view ≤ (higher_certificate top new).block.view)
higher_above top new =
    cond_both (ltb top.block.view new.block.view) new top
    (λ (c : Certificate). (top.block.view ≤ c.block.view) × (new.block.view ≤ c.block.view))
    (λ e. grind (arith, nat_tests)) (λ e. grind (arith, nat_tests))

pub higher_one : (P : Certificate → Type 0) (top new : Certificate) → P top → P new → P (higher_certificate top new)
higher_one P top new p q = cond_both (ltb top.block.view new.block.view) new top P (λ _. q) (λ _. p)

pub top_rises : (n : ℕ) (top : Certificate) (b : Block) (t : Signers) → top.block.view ≤ (top_after n top (block_key b) b.tally t).block.view
top_rises n top b t =
    cond_both (completes n b.tally t) _ top (λ (c : Certificate). top.block.view ≤ c.block.view)
    (λ e. (higher_above top (record { block = block_key b; signers = t })).0) (λ _. omega arith)

-- ---- what holds

module _ (table : Table) (n : ℕ) (Led : Key → Type 0) where
  pub record LiveBlock (view : ℕ) (b : Block) : Type 0 where
    pub reached : b.body.view ≤ view
    pub led : Led (block_key b)
    pub sixteen : length b.tally.seals ≡ 16
    pub accepted : Accepted table (block_key b) b.tally

  pub record LiveLedger (view : ℕ) (g : Ledger) : Type 0 where
    pub blocks : (b : Block) → On b g.shelf → LiveBlock view b
    pub counted : (b : Block) → On b g.shelf → is_quorum n b.tally.set ≡ true → b.body.view ≤ g.top.block.view
    pub head_below : (g.head.view < view) ⊎ (g.head.view ≡ 0)
    pub top_below : g.top.block.view ≤ view
    pub stands : certificate_stands table n g.top ≡ true

  pub fresh_live : (view : ℕ) (b : Block) → b.tally ≡ no_signers → b.body.view ≤ view → Led (block_key b) → LiveBlock view b
  fresh_live view b e l d = record {
    reached = l;
    led = d;
    sixteen = ap (λ (t : Signers). length t.seals) e;
    accepted = λ m lm h. absurd (none_signed m (sym (ap (λ (t : Signers). signed t.set m) e) ∙ h));
  }

  -- ---- changes of a ledger

  pub empty_live : (slots view : ℕ) → LiveLedger view (empty_ledger slots)
  empty_live slots view = record {
    blocks = λ b o. absurd (none_on slots b o);
    counted = λ b o. absurd (none_on slots b o);
    head_below = inr refl;
    top_below = omega arith;
    stands = refl;
  }

  pub placed_live : (view : ℕ) (b : Block) (g : Ledger) → LiveBlock view b → is_quorum n b.tally.set ≡ false → LiveLedger view g
      → LiveLedger view (placed b g)
  placed_live view b g lb q l = record {
    blocks = λ c o. ⊎_elim (λ e. subst (LiveBlock view) (sym e) lb) (l.blocks c) (on_put g.shelf b c o);
    counted = λ c o h. ⊎_elim
        (λ e. absurd (both_ways _ q (sym (ap (λ (x : Block). is_quorum n x.tally.set) e) ∙ h)))
        (λ p. l.counted c p h) (on_put g.shelf b c o);
    head_below = l.head_below;
    top_below = l.top_below;
    stands = l.stands;
  }

  pub with_top_live : (view : ℕ) (c : Certificate) (g : Ledger) → c.block.view ≤ view → certificate_stands table n c ≡ true
      → LiveLedger view g → LiveLedger view (with_top c g)
  with_top_live view c g lc st l = record {
    blocks = l.blocks;
    counted = λ b o h. omega (arith, l.counted b o h, (higher_above g.top c).0);
    head_below = l.head_below;
    top_below = higher_one (λ x. x.block.view ≤ view) g.top c l.top_below lc;
    stands = higher_one (λ x. certificate_stands table n x ≡ true) g.top c l.stands st;
  }

  -- ---- a vote enters a tally

  abbrev after : ℕ → List ℕ → Block → Block
  after voter seal b = with_tally b (joined voter seal b.tally)

  joined_live : (view voter : ℕ) (seal : List ℕ) (b : Block) → voter < 16 → table voter (votes_for (block_key b)) seal ≡ true
      → LiveBlock view b → LiveBlock view (after voter seal b)
  joined_live view voter seal b lv ok l =
      cond_both (signed b.tally.set voter) b.tally _ (λ (t : Signers). LiveBlock view (with_tally b t))
      (λ _. record { reached = l.reached; led = l.led; sixteen = l.sixteen; accepted = l.accepted })
      (λ _. record {
        reached = l.reached;
        led = l.led;
        sixteen = length-set b.tally.seals voter seal ∙ l.sixteen;
        accepted = accepts;
      })
    where
      lies : voter < length b.tally.seals
      lies = omega (arith, lv, l.sixteen)

      accepts : Accepted table (block_key b) (record { set = bit_or b.tally.set (2 ^ voter); seals = set b.tally.seals voter seal })
      accepts m lm h = ⊎_elim own other (cases_eq m voter)
        where
          own : m ≡ voter → table m (votes_for (block_key b)) (get_or (set b.tally.seals voter seal) m []) ≡ true
          own e =
              subst (λ (j : ℕ). table j (votes_for (block_key b)) (get_or (set b.tally.seals voter seal) j []) ≡ true) (sym e)
              (ap (table voter (votes_for (block_key b))) (get_or-set_same b.tally.seals voter seal [] lies) ∙ ok)

          other : (m ≡ voter → ⊥) → table m (votes_for (block_key b)) (get_or (set b.tally.seals voter seal) m []) ≡ true
          other ne =
              ap (table m (votes_for (block_key b))) (get_or-set_other b.tally.seals voter m seal [] ne)
              ∙ l.accepted m lm
              (⊎_elim (λ k. holds_signed b.tally.set m k) (λ e. absurd (ne e)) (holds_entered b.tally.set voter m (signed_holds _ m h)))

  -- the top certificate after a vote, by whether it brought a quorum
  top_ways : (P : Certificate → Type 0) (top : Certificate) (b : Block) (t : Signers) → P top
      → (is_quorum n t.set ≡ true → P (record { block = block_key b; signers = t }))
      → P (top_after n top (block_key b) b.tally t)
  top_ways P top b t p q =
      cond_both (completes n b.tally t) _ top P
      (λ e. higher_one P top _ p (q (and_parts (not (is_quorum n b.tally.set)) (is_quorum n t.set) e).1)) (λ _. p)

  -- a tally with a quorum is no younger than the top certificate
  top_covers : (top : Certificate) (b : Block) (t : Signers) → (is_quorum n b.tally.set ≡ true → b.body.view ≤ top.block.view)
      → is_quorum n t.set ≡ true → b.body.view ≤ (top_after n top (block_key b) b.tally t).block.view
  top_covers top b t old q =
      cond_both (completes n b.tally t) _ top (λ (c : Certificate). b.body.view ≤ c.block.view)
      (λ e. (higher_above top (record { block = block_key b; signers = t })).1)
      (λ e. ⊎_elim (λ f. old (not-false _ f)) (λ f. absurd (both_ways _ f q)) (and_cases (not (is_quorum n b.tally.set)) (is_quorum n t.set) e))

  pub entered_live : (view : ℕ) (k : Key) (voter : ℕ) (seal : List ℕ) (b : Block) (g : Ledger) → held k g.shelf ≡ Some b → voter < 16
      → table voter (votes_for k) seal ≡ true → LiveLedger view g → LiveLedger view (entered n k voter seal b g)
  entered_live view k voter seal b g h lv ok l =
      let w = held_on k g.shelf b h in
      let lb = l.blocks b w.0 in
      let new = joined_live view voter seal b lv (ap (λ (j : Key). table voter (votes_for j) seal) w.1 ∙ ok) lb in
      let t = joined voter seal b.tally in
      record {
        blocks = λ c o. ⊎_elim (λ e. subst (LiveBlock view) (sym e) new) (l.blocks c) (on_replaced k (after voter seal b) c g.shelf o);
        counted = λ c o q. ⊎_elim
            (λ e. subst (λ (x : Block). is_quorum n x.tally.set ≡ true → x.body.view ≤ (top_after n g.top (block_key b) b.tally t).block.view) (sym e)
            (top_covers g.top b t (l.counted b w.0)) q)
            (λ p. omega (arith, l.counted c p q, top_rises n g.top b t)) (on_replaced k (after voter seal b) c g.shelf o);
        head_below = l.head_below;
        top_below = top_ways (λ x. x.block.view ≤ view) g.top b t l.top_below (λ _. lb.reached);
        stands = top_ways (λ x. certificate_stands table n x ≡ true) g.top b t l.stands
            (λ q. or_right (eqb b.body.view 0) _ (and_from (is_quorum n t.set) _ q (accepted_below table (block_key b) t new.accepted 16 (omega arith))));
      }

  -- ---- settling

  pub settled_live : (view : ℕ) (g : Ledger) → LiveLedger view g → LiveLedger view (settle n g).ledger
  settled_live view g l =
      settle_ways n g (λ (t : Settled). LiveLedger view t.ledger) (λ _. l)
      (λ b e r. record {
        blocks = λ c o. l.blocks c (on_swept b.body.view g.shelf c o).0;
        counted = λ c o q. l.counted c (on_swept b.body.view g.shelf c o).0 q;
        head_below = inl (omega (arith, (l.blocks r.child r.confirmed.on).reached, r.confirmed.next));
        top_below = l.top_below;
        stands = l.stands;
      })

-- ---- later views and more that was led

module _ (table : Table) (n : ℕ) (Led Led' : Key → Type 0) (more : (k : Key) → Led k → Led' k) where
  pub later_live : (view view' : ℕ) (g : Ledger) → view ≤ view' → LiveLedger table n Led view g → LiveLedger table n Led' view' g
  later_live view view' g le l = record {
    blocks = λ b o. let x = l.blocks b o in record {
      reached = omega (arith, x.reached, le);
      led = more (block_key b) x.led;
      sixteen = x.sixteen;
      accepted = x.accepted;
    };
    counted = l.counted;
    head_below = ⊎_elim (λ h. inl (omega (arith, h, le))) (λ h. inr h) l.head_below;
    top_below = omega (arith, l.top_below, le);
    stands = l.stands;
  }
