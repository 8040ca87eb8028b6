-- A sound console proposes once in a view.
use Rattle.std.proofs.Common.{◌≡◌, ℕ, ◌<◌, ◌⊎◌, List, length, Some, None, Option, sym, refl, ap, ◌∙◌, subst, ap₂, inl, inr, arith}
use Rattle.std.proofs.lemmas.Bool.{cases_order}
use Rattle.wire.specs.declared.key.Key.{Key}
use Rattle.wire.specs.declared.statement.Statement.{Statement}
use Rattle.wire.specs.declared.statement.Purpose.{Purpose}
use Rattle.wire.specs.declared.statement.Purpose.TheVariants as purpose
use Rattle.rules.specs.Call.{Call, opening, ticking, proposing, passing, hearing, step}
use Rattle.rules.specs.Hear.{proposes, take_up, count_vote}
use Rattle.rules.specs.Propose.{propose_body}
use Rattle.rules.specs.State.{State, Table}
use Rattle.rules.specs.Step.{Outcome, Owed}
use Rattle.rules.specs.Tick.{vote_for}
use Rattle.rules.specs.Options.{absent, same_some}
use Rattle.sheets.specs.Sheet.{Pit, Line, Sheet, Spot, state_at, advance, first_opening, done, sealed_in}
use Rattle.sheets.specs.Sound.{Sealed, Spends, SoundSheet}
use Rattle.liveness.proofs.Moments.{spot_before, spot_same}
use Rattle.liveness.proofs.Run.{seats}
use Rattle.liveness.proofs.Ways.{tick_ways, propose_ways, hear_ways}

-- the call spent this console's turn of that view
pub record Spent (call : Call) (own view : ℕ) : Type 0 where
  pub owed : Owed
  pub spends : Spends call owed
  pub console : owed.console ≡ own
  pub of_view : owed.view ≡ view

-- a vote is no proposal
other_purpose : {B : Type 0} (j k : Key) → ◌≡◌ {A = Option Statement} (Some (record { purpose = purpose.Vote; block = j })) (Some (proposes k)) → B
other_purpose j k e =
    let s = same_some (record { purpose = purpose.Vote; block = j }) (proposes k) e in
    let p : ◌≡◌ {A = Purpose} purpose.Vote purpose.Propose = ap (λ (x : Statement). x.purpose) s in
    absurd (let z : ◌≡◌ {A = ℕ} 0 1 = cc in omega arith)

same_block : (j k : Key) → ◌≡◌ {A = Option Statement} (Some (proposes j)) (Some (proposes k)) → j ≡ k
same_block j k e = ap (λ (x : Statement). x.block) (same_some (proposes j) (proposes k) e)

-- a sealed proposal spent its view's turn
sealed_spent : (table : Table) (seal : List ℕ) (s : State) (call : Call) (k : Key) → (step table seal s call).sealed ≡ Some (proposes k)
    → Spent call s.seat.own k.view
unfolding vote_for propose_body take_up count_vote
sealed_spent table seal s (opening slots) k = λ e. absent _ e
sealed_spent table seal s (ticking t) k =
    tick_ways seal s t (λ (o : Outcome). o.sealed ≡ Some (proposes k) → Spent (ticking t) s.seat.own k.view)
    (λ r _ e. absent _ e) (λ u e. absent _ e) (λ u e. absent _ e) (λ b c e. other_purpose _ k e)
sealed_spent table seal s (proposing owed orders space) k =
    propose_ways seal s owed orders space (λ (o : Outcome). o.sealed ≡ Some (proposes k) → Spent (proposing owed orders space) s.seat.own k.view)
    (λ r e. absent _ e)
    (λ w e. record { owed = owed; spends = refl; console = w.own_turn; of_view = ap (λ (j : Key). j.view) (same_block _ k e) })
sealed_spent table seal s (passing owed) k = λ e. absent _ e
sealed_spent table seal s (hearing bytes) k =
    hear_ways table s bytes (λ (o : Outcome). o.sealed ≡ Some (proposes k) → Spent (hearing bytes) s.seat.own k.view)
    (λ r e. absent _ e) (λ e. absent _ e) (λ p w e. absent _ e) (λ x b w e. absent _ e)

spent_at : (pit : Pit) (l : Line) (ls : Sheet) (k : Key) → sealed_in (done pit l ls) ≡ Some (proposes k) → Spent l.call l.console k.view
spent_at pit l ls k e = at (state_at pit l.console ls) refl e
  where
    first : (c : Call) → sealed_in (first_opening pit l.console c) ≡ Some (proposes k) → ⊥
    first (opening slots) h = absent _ h
    first (ticking t) h = absent _ h
    first (proposing o orders space) h = absent _ h
    first (passing o) h = absent _ h
    first (hearing bytes) h = absent _ h

    at : (o : Option State) → state_at pit l.console ls ≡ o → sealed_in (advance pit l o) ≡ Some (proposes k) → Spent l.call l.console k.view
    at None f h = absurd (first l.call h)
    at (Some s) f h =
        subst (λ (j : ℕ). Spent l.call j k.view) (seats pit l.console ls s f).1
        (sealed_spent (pit.table l.console) l.seal s l.call k h)

-- one console's turn of one view is spent on one line
spent_once : (pit : Pit) (sheet : Sheet) → SoundSheet pit sheet → (p q : Spot sheet) (i view : ℕ) → p.line.console ≡ i → q.line.console ≡ i
    → Spent p.line.call i view → Spent q.line.call i view → length q.earlier < length p.earlier → ⊥
spent_once pit sheet good p q i view pi qi a b l =
    let r = spot_before q p l in
    let same : b.owed ≡ a.owed = λ j. record { console = (b.console ∙ sym a.console) j; view = (b.of_view ∙ sym a.of_view) j } in
    good.turns.once p r.0 a.owed a.spends
    (subst (λ (x : Line). Spends x.call a.owed) (sym r.1) (subst (Spends q.line.call) same b.spends))
    (a.console ∙ sym pi) (a.console ∙ sym qi ∙ ap (λ (x : Line). x.console) (sym r.1))

-- a console seals one proposal in a view
pub one_proposal : (pit : Pit) (sheet : Sheet) → SoundSheet pit sheet → (i : ℕ) (j k : Key) → j.view ≡ k.view
    → Sealed pit sheet i (proposes j) → Sealed pit sheet i (proposes k) → j ≡ k
one_proposal pit sheet good i j k e a b = at (cases_order (length a.0.earlier) (length b.0.earlier))
  where
    sa : Spent a.0.line.call i j.view
    sa = subst (λ (x : ℕ). Spent a.0.line.call x j.view) a.1 (spent_at pit a.0.line a.0.earlier j a.2)

    sb : Spent b.0.line.call i j.view
    sb = subst (λ (x : ℕ). Spent b.0.line.call x j.view) b.1
        (subst (λ (x : ℕ). Spent b.0.line.call b.0.line.console x) (sym e) (spent_at pit b.0.line b.0.earlier k b.2))

    at : (length a.0.earlier ≡ length b.0.earlier) ⊎ ((length a.0.earlier < length b.0.earlier) ⊎ (length b.0.earlier < length
        a.0.earlier)) → j ≡ k
    at (inl same) =
        let s = spot_same a.0 b.0 same in
        same_block j k (sym a.2 ∙ ap sealed_in (ap₂ (done pit) s.0 s.1) ∙ b.2)
    at (inr (inl less)) = absurd (spent_once pit sheet good b.0 a.0 i j.view b.1 a.1 sb sa less)
    at (inr (inr more)) = absurd (spent_once pit sheet good a.0 b.0 i j.view a.1 b.1 sa sb more)
