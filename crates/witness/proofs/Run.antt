-- What each line of a sheet did, reckoned once, from the oldest line on. A test of every entry speaks for every spot
-- of the sheet, and an entry that is found gives a spot.
use Rattle.std.proofs.Common.{◌≡◌, ℕ, suc, Bool, true, false, cond, ◌&&◌, ◌||◌, T, eqb, ◌⊎◌, List, [], ◌∷◌, ◌++◌, length, None, Option, refl, ap, subst, inl, inr, arith}
use Rattle.std.proofs.lemmas.Bool.Decides.{nat_tests}
use Rattle.wire.specs.declared.body.Body.{Body}
use Rattle.rules.specs.State.{State}
use Rattle.rules.specs.Step.{Outcome}
use Rattle.witness.proofs.Tests.{both, either}
use Rattle.sheets.specs.Sheet.{Pit, Line, Sheet, Spot, advance, chain, done, handed_in, is_opening, state_after, state_at}

-- A line with what it did.
pub record Entry : Type 0 where
  pub line : Line
  pub outcome : Option Outcome

abbrev pub Trace : Type 0
Trace = List Entry

-- The state of a console after these entries.
unfoldable pub state_in : ℕ → Trace → Option State
state_in i [] = None
state_in i (e ∷ es) = cond (eqb e.line.console i) (state_after e.outcome (state_in i es)) (state_in i es)

abbrev pub extended : Pit → Line → Trace → Trace
extended pit l es = record { line = l; outcome = advance pit l (state_in l.console es) } ∷ es

unfoldable pub run : Pit → Sheet → Trace
run pit [] = []
run pit (l ∷ ls) = extended pit l (run pit ls)

-- The chain of a console after them.
unfoldable pub chain_in : ℕ → Trace → List Body
chain_in i [] = []
chain_in i (e ∷ es) =
    cond (eqb e.line.console i)
    (cond (is_opening e.line.call) [] (chain_in i es ++ handed_in e.outcome))
    (chain_in i es)

-- What the run has for a line: the same as what the sheet says of it.
abbrev pub entry : Pit → Line → Sheet → Entry
entry pit l earlier = record { line = l; outcome = done pit l earlier }

module _ (pit : Pit) where
  pub state_run : (i : ℕ) (ls : Sheet) → state_in i (run pit ls) ≡ state_at pit i ls
  unfolding run state_in state_at
  state_run i [] = refl
  state_run i (l ∷ ls) =
      let here = state_run i ls in
      let there = state_run l.console ls in
      grind (arith, nat_tests)

  pub run_cons : (l : Line) (ls : Sheet) → run pit (l ∷ ls) ≡ entry pit l ls ∷ run pit ls
  unfolding run
  run_cons l ls =
      let made : Option State → Trace = λ s. record { line = l; outcome = advance pit l s } ∷ run pit ls in
      ap made (state_run l.console ls)

  pub length_run : (ls : Sheet) → length (run pit ls) ≡ length ls
  unfolding run
  length_run [] = refl
  length_run (l ∷ ls) = ap suc (length_run ls)

  pub chain_run : (i : ℕ) (ls : Sheet) → chain_in i (run pit ls) ≡ chain pit i ls
  unfolding run chain_in chain
  chain_run i [] = refl
  chain_run i (l ∷ ls) =
      let here = chain_run i ls in
      let there = state_run l.console ls in
      cc

-- Tests of an entry together with the entries before it.
unfoldable pub every : (Entry → Trace → Bool) → Trace → Bool
every f [] = true
every f (e ∷ es) = f e es && every f es

unfoldable pub some : (Entry → Trace → Bool) → Trace → Bool
some f [] = false
some f (e ∷ es) = f e es || some f es

-- The test at a spot.
abbrev pub Passes : (Entry → Trace → Bool) → Pit → {sheet : Sheet} → Spot sheet → Type 0
Passes f pit p = T (f (entry pit p.line p.earlier) (run pit p.earlier))

module _ (pit : Pit) (f : Entry → Trace → Bool) where
  every_cons : (l : Line) (ls : Sheet) → T (every f (run pit (l ∷ ls)))
      → T (f (entry pit l ls) (run pit ls)) × T (every f (run pit ls))
  unfolding every
  every_cons l ls t =
      both (f (entry pit l ls) (run pit ls)) (every f (run pit ls)) (subst (λ es. T (every f es)) (run_cons pit l ls) t)

  every_later : (later : Sheet) (l : Line) (ls : Sheet) → T (every f (run pit (later ++ (l ∷ ls))))
      → T (f (entry pit l ls) (run pit ls))
  every_later [] l ls t = (every_cons l ls t).0
  every_later (x ∷ later) l ls t = every_later later l ls (every_cons x (later ++ (l ∷ ls)) t).1

  pub at_every : {sheet : Sheet} → T (every f (run pit sheet)) → (p : Spot sheet) → Passes f pit p
  at_every t p =
      every_later p.later p.line p.earlier (subst (λ ls. T (every f (run pit ls))) p.here t)

  -- a spot of the older lines, seen from the newer ones
  further : {l : Line} {ls : Sheet} → Spot ls → Spot (l ∷ ls)
  further {l} p = record { later = l ∷ p.later; line = p.line; earlier = p.earlier; here = ap (λ ls. l ∷ ls) p.here }

  pub at_some : (sheet : Sheet) → T (some f (run pit sheet)) → (p : Spot sheet) × Passes f pit p
  unfolding some run further
  at_some [] t = absurd t
  at_some (l ∷ ls) t =
      let here = subst (λ es. T (some f es)) (run_cons pit l ls) t in
      found (either (f (entry pit l ls) (run pit ls)) (some f (run pit ls)) here) (at_some ls)
    where
      found : T (f (entry pit l ls) (run pit ls)) ⊎ T (some f (run pit ls))
          → (T (some f (run pit ls)) → (p : Spot ls) × Passes f pit p) → (p : Spot (l ∷ ls)) × Passes f pit p
      found (inl s) rest = (record { later = []; line = l; earlier = ls; here = refl }, s)
      found (inr s) rest = (further (rest s).0, (rest s).1)
