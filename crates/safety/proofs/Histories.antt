-- Sheets as histories of votes: places on a sheet, what each line adds, and how histories grow.
use Rattle.std.proofs.Common.{◌≡◌, ℕ, true, false, cond, eqb, ◌⊎◌, List, [], ◌∷◌, ◌++◌, Some, None, Option, sym, refl, ap, ◌∙◌, subst, ap₂, inl, inr, ⊎_elim}
use Rattle.std.proofs.lemmas.List.{append_assoc}
use Rattle.std.proofs.lemmas.Bool.{cases_Bool, cond-true, cond-false, cond_both, eqb-true, eq-eqb}
use Rattle.votes.specs.Votes.{Blocks, Consoles, counted_consoles, History, Among, Grows}
use Rattle.wire.specs.Format.{body_key, origin}
use Rattle.wire.specs.declared.body.Body.{Body}
use Rattle.wire.specs.declared.key.Key.{Key}
use Rattle.wire.specs.declared.statement.Statement.{Statement}
use Rattle.rules.specs.Step.{Outcome}
use Rattle.sheets.specs.Sheet.{Pit, Line, Sheet, Spot, Moment, state_after, state_at, done, handed_in, shown_in, sealed_in, is_opening, chain}
use Rattle.sheets.specs.Sound.{Sealed, OnSheet, SoundSheet}

-- ---- blocks and consoles, as the theory of votes has them

abbrev pub blocks : Blocks
blocks =
    record { Body = Body; Key = Key; view = λ k. k.view; key = body_key; parent = λ b. b.parent; origin = origin }

abbrev pub consoles : Pit → Consoles
consoles pit = counted_consoles pit.n pit.sound

-- ---- what a sheet's lines add

abbrev pub ballot_in : Option Outcome → Option Body
ballot_in None = None
ballot_in (Some o) = o.ballot

abbrev pub with_some : {A : Type 0} → Option A → List A → List A
with_some None xs = xs
with_some (Some x) xs = x ∷ xs

-- the bodies that console i voted for, newest first
unfoldable pub votes_of : Pit → Sheet → ℕ → List Body
votes_of pit [] i = []
votes_of pit (l ∷ ls) i =
    cond (eqb l.console i) (with_some (ballot_in (done pit l ls)) (votes_of pit ls i)) (votes_of pit ls i)

-- the bodies that were proposed or taken up, newest first
unfoldable pub shown_on : Pit → Sheet → List Body
shown_on pit [] = []
shown_on pit (l ∷ ls) = with_some (shown_in (done pit l ls)) (shown_on pit ls)

abbrev pub history : Pit → Sheet → History blocks
history pit lines = record { votes = votes_of pit lines; shown = shown_on pit lines }

-- ---- a line more

pub apart_eqb : (a b : ℕ) → (a ≡ b → ⊥) → eqb a b ≡ false
apart_eqb a b m = ⊎_elim (λ e. absurd (m (eqb-true a b e))) (λ e. e) (cases_Bool (eqb a b))

pub state_own : (pit : Pit) (l : Line) (ls : Sheet)
    → state_at pit l.console (l ∷ ls) ≡ state_after (done pit l ls) (state_at pit l.console ls)
unfolding state_at
state_own pit l ls = cond-true (eqb l.console l.console) _ _ (eq-eqb _ _ refl)

pub state_other : (pit : Pit) (l : Line) (ls : Sheet) (i : ℕ) → (l.console ≡ i → ⊥) → state_at pit i (l ∷ ls) ≡ state_at pit i ls
unfolding state_at
state_other pit l ls i n = cond-false (eqb l.console i) _ _ (apart_eqb l.console i n)

pub votes_own : (pit : Pit) (l : Line) (ls : Sheet)
    → votes_of pit (l ∷ ls) l.console ≡ with_some (ballot_in (done pit l ls)) (votes_of pit ls l.console)
unfolding votes_of
votes_own pit l ls = cond-true (eqb l.console l.console) _ _ (eq-eqb _ _ refl)

pub votes_other : (pit : Pit) (l : Line) (ls : Sheet) (i : ℕ) → (l.console ≡ i → ⊥) → votes_of pit (l ∷ ls) i ≡ votes_of pit ls i
unfolding votes_of
votes_other pit l ls i n = cond-false (eqb l.console i) _ _ (apart_eqb l.console i n)

pub chain_own : (pit : Pit) (l : Line) (ls : Sheet) → is_opening l.call ≡ false
    → chain pit l.console (l ∷ ls) ≡ chain pit l.console ls ++ handed_in (done pit l ls)
unfolding chain
chain_own pit l ls e = cond-true (eqb l.console l.console) _ _ (eq-eqb _ _ refl) ∙ cond-false (is_opening l.call) _ _ e

pub chain_opening : (pit : Pit) (l : Line) (ls : Sheet) → is_opening l.call ≡ true → chain pit l.console (l ∷ ls) ≡ []
unfolding chain
chain_opening pit l ls e = cond-true (eqb l.console l.console) _ _ (eq-eqb _ _ refl) ∙ cond-true (is_opening l.call) _ _ e

pub chain_other : (pit : Pit) (l : Line) (ls : Sheet) (i : ℕ) → (l.console ≡ i → ⊥) → chain pit i (l ∷ ls) ≡ chain pit i ls
unfolding chain
chain_other pit l ls i n = cond-false (eqb l.console i) _ _ (apart_eqb l.console i n)

pub shown_more : (pit : Pit) (l : Line) (ls : Sheet) → shown_on pit (l ∷ ls) ≡ with_some (shown_in (done pit l ls)) (shown_on pit ls)
unfolding shown_on
shown_more pit l ls = refl

-- ---- growth

pub among_some : {A : Type 0} (o : Option A) (xs : List A) (x : A) → Among x xs → Among x (with_some o xs)
among_some None xs x m = m
among_some (Some y) xs x m = inr m

-- the one that was added, or one of the others
pub some_among : {A : Type 0} (o : Option A) (xs : List A) (x : A) → Among x (with_some o xs) → (o ≡ Some x) ⊎ Among x xs
some_among None xs x m = inr m
some_among (Some y) xs x (inl e) = inl (ap (λ z. Some z) (sym e))
some_among (Some y) xs x (inr m) = inr m

pub some_added : {A : Type 0} (o : Option A) (xs : List A) (x : A) → o ≡ Some x → Among x (with_some o xs)
some_added {A} o xs x e = subst (λ (q : Option A). Among x (with_some q xs)) (sym e) (inl refl)

pub grows_line : (pit : Pit) (l : Line) (ls : Sheet) → Grows blocks (history pit ls) (history pit (l ∷ ls))
unfolding votes_of shown_on
grows_line pit l ls = record {
  votes = λ i b m. cond_both (eqb l.console i) _ _ (λ (vs : List Body). Among b vs) (λ _. among_some _ _ b m) (λ _. m);
  shown = λ b m. among_some _ _ b m;
}

pub grows_lines : (pit : Pit) (more ls : Sheet) → Grows blocks (history pit ls) (history pit (more ++ ls))
grows_lines pit [] ls = record { votes = λ i b m. m; shown = λ b m. m }
grows_lines pit (l ∷ more) ls =
    let g = grows_lines pit more ls in
    let h = grows_line pit l (more ++ ls) in
    record { votes = λ i b m. h.votes i b (g.votes i b m); shown = λ b m. h.shown b (g.shown b m) }

-- ---- places on a sheet

-- the first line of all that stand there
abbrev pub newest : (l : Line) (ls : Sheet) → Spot (l ∷ ls)
newest l ls = record { later = []; line = l; earlier = ls; here = refl }

abbrev pub spot_later : {ls : Sheet} (more : Sheet) → Spot ls → Spot (more ++ ls)
spot_later {ls} more p = record {
  later = more ++ p.later;
  line = p.line;
  earlier = p.earlier;
  here = ap (λ (xs : Sheet). more ++ xs) p.here ∙ sym (append_assoc more p.later (p.line ∷ p.earlier));
}

-- a line of the sheet is its newest or stands among the earlier ones
pub spot_cases : (l : Line) (ls : Sheet) (q : Spot (l ∷ ls))
    → ((q.line ≡ l) × (q.earlier ≡ ls)) ⊎ ((r : Spot ls) × (r.line ≡ q.line) × (r.earlier ≡ q.earlier))
spot_cases l ls q = at q.later q.here
  where
    at : (later : Sheet) → l ∷ ls ≡ later ++ (q.line ∷ q.earlier)
        → ((q.line ≡ l) × (q.earlier ≡ ls)) ⊎ ((r : Spot ls) × (r.line ≡ q.line) × (r.earlier ≡ q.earlier))
    at [] e = inl (cc, cc)
    at (x ∷ xs) e =
        let h : ls ≡ xs ++ (q.line ∷ q.earlier) = cc in
        inr (record { later = xs; line = q.line; earlier = q.earlier; here = h }, refl, refl)

-- ---- premises hold of every earlier part of a sheet

pub sound_earlier : (pit : Pit) (more ls : Sheet) → SoundSheet pit (more ++ ls) → SoundSheet pit ls
sound_earlier pit more ls s = record {
  the_pit = s.the_pit;
  lines = λ p. s.lines (spot_later more p);
  typed = λ p. s.typed (spot_later more p);
  seals = λ p. s.seals (spot_later more p);
  sealing = λ p. s.sealing (spot_later more p);
  turns = record { came = λ p. s.turns.came (spot_later more p); once = λ p. s.turns.once (spot_later more p) };
  digests = λ b c h k. s.digests b c (spot_later more h.0, h.1) (spot_later more k.0, k.1);
}

pub sound_moment : (pit : Pit) (sheet : Sheet) → SoundSheet pit sheet → (a : Moment sheet) → SoundSheet pit a.lines
sound_moment pit sheet s a = sound_earlier pit a.later a.lines (subst (SoundSheet pit) a.here s)

-- the history at a moment grows into the sheet's
pub grows_moment : (pit : Pit) (sheet : Sheet) (a : Moment sheet) → Grows blocks (history pit a.lines) (history pit sheet)
grows_moment pit sheet a =
    subst (λ (x : Sheet). Grows blocks (history pit a.lines) (history pit x)) (sym a.here) (grows_lines pit a.later a.lines)

-- ---- what was shown is on the sheet

pub shown_sheet : (pit : Pit) (ls : Sheet) (b : Body) → Among b (shown_on pit ls) → OnSheet pit ls b
unfolding shown_on
shown_sheet pit [] b m = absurd m
shown_sheet pit (l ∷ ls) b m =
    ⊎_elim
    (λ e. (newest l ls, e))
    (λ k. let r = shown_sheet pit ls b k in (spot_later (l ∷ []) r.0, r.1))
    (some_among (shown_in (done pit l ls)) (shown_on pit ls) b m)

-- a statement was sealed on the newest line or before
pub sealed_cases : (pit : Pit) (l : Line) (ls : Sheet) (i : ℕ) (st : Statement) → Sealed pit (l ∷ ls) i st
    → ((l.console ≡ i) × (sealed_in (done pit l ls) ≡ Some st)) ⊎ Sealed pit ls i st
sealed_cases pit l ls i st h =
    ⊎_elim
    (λ e.
    inl (
      sym (ap (λ (x : Line). x.console) e.0) ∙ h.1,
      ap sealed_in (sym (ap₂ (done pit) e.0 e.1)) ∙ h.2,
    ))
    (λ r.
    inr (
      r.0,
      ap (λ (x : Line). x.console) r.1 ∙ h.1,
      ap sealed_in (ap₂ (done pit) r.1 r.2) ∙ h.2,
    ))
    (spot_cases l ls h.0)
