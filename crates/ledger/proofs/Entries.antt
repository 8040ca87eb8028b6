-- A vote that enters a tally.
use Rattle.std.proofs.Common.{◌≡◌, ℕ, ◌<◌, cond, ltb, List, get_or, set, Some, None, sym, refl, ap, ◌∙◌}
use Rattle.std.proofs.lemmas.Bool.{cond-true, lt-ltb}
use Rattle.rules.specs.Blocks.{Slot, block_key, where_held}
use Rattle.rules.specs.Settle.{enter, enter_at, enter_slot, joined, top_after, with_tally}
use Rattle.rules.specs.State.{Ledger}
use Rattle.rules.specs.declared.block.Block.{Block}
use Rattle.wire.specs.declared.certificate.Certificate.{Certificate}
use Rattle.wire.specs.declared.certificate.Signers.{Signers}
use Rattle.wire.specs.declared.key.Key.{Key}

counted : (n : ℕ) (k : Key) (voter : ℕ) (seal : List ℕ) (g after : Ledger) → voter < 16 →
    after ≡ enter n k voter seal g → after ≡ cond (ltb voter 16) (enter n k voter seal g) g
counted n k voter seal g after l e = e ∙ sym (cond-true (ltb voter 16) (enter n k voter seal g) g (lt-ltb voter 16 l))

pub not_held : (n : ℕ) (k : Key) (voter : ℕ) (seal : List ℕ) (g : Ledger) → voter < 16 →
    where_held k g.shelf ≡ None → g ≡ cond (ltb voter 16) (enter n k voter seal g) g
unfolding enter
not_held n k voter seal g l w = counted n k voter seal g g l (sym (ap (λ o. enter_at n voter seal o g) w))

at_slot : (n voter : ℕ) (seal : List ℕ) (i : ℕ) (x : Slot) (g : Ledger) →
    ((b : Block) → x ≡ Some b → ⊥) → enter_slot n voter seal i x g ≡ g
unfolding enter_slot
at_slot n voter seal i None g h = refl
at_slot n voter seal i (Some b) g h = absurd (h b refl)

pub held_empty : (n : ℕ) (k : Key) (voter : ℕ) (seal : List ℕ) (g : Ledger) (i : ℕ) → voter < 16 →
    where_held k g.shelf ≡ Some i → ((b : Block) → get_or g.shelf i None ≡ Some b → ⊥) →
    g ≡ cond (ltb voter 16) (enter n k voter seal g) g
unfolding enter
held_empty n k voter seal g i l w h =
    counted n k voter seal g g l (sym (ap (λ o. enter_at n voter seal o g) w ∙ at_slot n voter seal i (get_or g.shelf i None) g h))

-- the ledger with slot i's block and the top certificate as given
abbrev pub with_entry : Ledger → ℕ → Block → Certificate → Ledger
with_entry g i b top = record { shelf = set g.shelf i (Some b); top = top; head = g.head; count = g.count }

pub held_there : (n : ℕ) (k : Key) (voter : ℕ) (seal : List ℕ) (g : Ledger) (i : ℕ) (b : Block) → voter < 16 →
    where_held k g.shelf ≡ Some i → get_or g.shelf i None ≡ Some b →
    (t : Signers) (key : Key) (top : Certificate) →
    t ≡ joined voter seal b.tally → key ≡ block_key b → top ≡ top_after n g.top key b.tally t →
    with_entry g i (with_tally b t) top ≡ cond (ltb voter 16) (enter n k voter seal g) g
unfolding enter enter_slot
held_there n k voter seal g i b l w s t key top et ek ec =
    counted n k voter seal g (with_entry g i (with_tally b t) top) l
    (ap (with_entry g i (with_tally b t)) ec
    ∙ ap (λ (y : Key). with_entry g i (with_tally b t) (top_after n g.top y b.tally t)) ek
    ∙ ap (λ (y : Signers). with_entry g i (with_tally b y) (top_after n g.top (block_key b) b.tally y)) et
    ∙ sym (ap (λ o. enter_at n voter seal o g) w ∙ ap (λ x. enter_slot n voter seal i x g) s))
