-- One console's states along a sheet.
use Rattle.std.proofs.Common.{◌≡◌, ℕ, ◌⊎◌, [], ◌∷◌, Some, None, Option, sym, refl, ap, ◌∙◌, subst, inl, inr}
use Rattle.std.proofs.lemmas.Bool.{cases_eq}
use Rattle.rules.specs.Call.{Call, opening, ticking, proposing, passing, hearing, step}
use Rattle.rules.specs.State.{State, opened}
use Rattle.parts.specs.Image.{no_marks}
use Rattle.rules.specs.Step.{Outcome}
use Rattle.rules.specs.Options.{absent, same_some}
use Rattle.sheets.specs.Sheet.{Pit, Line, Sheet, state_at, state_after, advance, first_opening, done}
use Rattle.safety.proofs.Histories.{state_own, state_other}

-- what a line does at a console that is open
abbrev pub stepped : Pit → ℕ → Line → State → Outcome
stepped pit i l s = step (pit.table i) l.seal s l.call

pub done_open : (pit : Pit) (i : ℕ) (l : Line) (ls : Sheet) (s : State) → l.console ≡ i → state_at pit i ls ≡ Some s
    → done pit l ls ≡ Some (stepped pit i l s)
done_open pit i l ls s e h =
    subst (λ (j : ℕ). state_at pit j ls ≡ Some s → done pit l ls ≡ Some (stepped pit j l s)) e
    (λ k. ap (advance pit l) k) h

pub state_next : (pit : Pit) (i : ℕ) (l : Line) (ls : Sheet) (s : State) → l.console ≡ i → state_at pit i ls ≡ Some s
    → state_at pit i (l ∷ ls) ≡ Some (stepped pit i l s).state
state_next pit i l ls s e h =
    subst (λ (j : ℕ). state_at pit j ls ≡ Some s → state_at pit j (l ∷ ls) ≡ Some (stepped pit j l s).state) e
    (λ k. state_own pit l ls ∙ ap (λ (o : Option State). state_after (advance pit l o) o) k) h

module _ (pit : Pit) (i : ℕ) (P : Sheet → State → Type 0)
    (first : (l : Line) (ls : Sheet) (slots : ℕ) → l.console ≡ i → P (l ∷ ls) (opened (record { n = pit.n; own = i; slots = slots }) no_marks))
    (other : (l : Line) (ls : Sheet) (s : State) → P ls s → P (l ∷ ls) s)
    (own : (l : Line) (ls : Sheet) (s : State) → l.console ≡ i → state_at pit i ls ≡ Some s → P ls s → P (l ∷ ls) (stepped pit i l s).state) where
  opened_first : (l : Line) (ls : Sheet) (s : State) → l.console ≡ i → (c : Call) → state_after (first_opening pit i c) None ≡ Some s → P (l ∷ ls) s
  opened_first l ls s e (opening slots) h = subst (P (l ∷ ls)) (same_some _ s h) (first l ls slots e)
  opened_first l ls s e (ticking t) h = absent s h
  opened_first l ls s e (proposing owed orders space) h = absent s h
  opened_first l ls s e (passing owed) h = absent s h
  opened_first l ls s e (hearing bytes) h = absent s h

  own_line : (l : Line) (ls : Sheet) (s : State) → l.console ≡ i → (o : Option State) → state_at pit i ls ≡ o
      → ((w : State) → state_at pit i ls ≡ Some w → P ls w) → state_after (advance pit l o) o ≡ Some s → P (l ∷ ls) s
  own_line l ls s e None k ih h =
      opened_first l ls s e l.call (subst (λ (j : ℕ). state_after (first_opening pit j l.call) None ≡ Some s) e h)
  own_line l ls s e (Some w) k ih h =
      let f : (stepped pit i l w).state ≡ s = subst (λ (j : ℕ). (stepped pit j l w).state ≡ s) e (same_some _ s h) in
      subst (P (l ∷ ls)) f (own l ls w e k (ih w k))

  -- a property of every state that the console comes to
  pub along : (ls : Sheet) (s : State) → state_at pit i ls ≡ Some s → P ls s
  unfolding state_at
  along [] s h = absent s h
  along (l ∷ ls) s h = at (along ls) (cases_eq l.console i)
    where
      at : ((w : State) → state_at pit i ls ≡ Some w → P ls w) → (l.console ≡ i) ⊎ (l.console ≡ i → ⊥) → P (l ∷ ls) s
      at ih (inr n) = other l ls s (ih s (sym (state_other pit l ls i n) ∙ h))
      at ih (inl e) =
          own_line l ls s e (state_at pit i ls) refl ih
          (sym (subst (λ (j : ℕ). state_at pit j (l ∷ ls) ≡ state_after (advance pit l (state_at pit j ls)) (state_at pit j ls)) e (state_own pit l ls)) ∙ h)
