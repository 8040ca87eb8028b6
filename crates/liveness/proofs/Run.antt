-- Every open console of a sound sheet keeps what it should.
use Rattle.std.proofs.Common.{◌≡◌, ℕ, ◌<◌, ◌≤◌, Bool, true, false, T, eqb, List, [], ◌∷◌, ◌++◌, Some, None, Option, sym, refl, ap, ◌∙◌, subst, arith}
use mathlib.Core.List.{Memᴰ}
use Rattle.std.proofs.lemmas.Bool.{and_parts, eqb-true}
use Rattle.wire.specs.Format.{body_key}
use Rattle.wire.specs.declared.key.Key.{Key}
use Rattle.wire.specs.declared.message.Proposal.{Proposal}
use Rattle.wire.specs.declared.message.Vote.{Vote}
use Rattle.wire.specs.declared.order.Order.{Order}
use Rattle.wire.specs.declared.statement.Statement.{Statement}
use Rattle.rules.specs.declared.block.Block.{Block}
use Rattle.rules.specs.Blocks.{block_key}
use Rattle.rules.specs.Call.{Call, opening, ticking, proposing, passing, hearing, step, seat_over}
use Rattle.rules.specs.Hear.{hear, proposes, votes_for, take_up, count_vote}
use Rattle.rules.specs.Pit.{leader, view_of}
use Rattle.rules.specs.Propose.{propose, propose_body, body_on_top}
use Rattle.rules.specs.State.{State, Table, saved, Seat}
use Rattle.parts.specs.Image.{no_marks}
use Rattle.rules.specs.Step.{turn, Outcome, Owed, Vouched, opens}
use Rattle.rules.specs.Tick.{tick, clocked, vote_for, marks_voted}
use Rattle.rules.specs.Options.{absent, same_some}
use Rattle.sheets.specs.Sheet.{Pit, Sound, Line, Sheet, state_at, advance, first_opening, done, answer_in, sealed_in, relied_in}
use Rattle.sheets.specs.Sound.{Sealed, Spends, SoundPit, SoundSheet}
use Rattle.safety.proofs.Histories.{spot_later, newest, sound_earlier}
use Rattle.safety.proofs.Reading.{read_proposal, read_vote}
use Rattle.liveness.proofs.Growth.{step_on}
use Rattle.liveness.proofs.Live.{later_live}
use Rattle.liveness.proofs.States.{Led, Live, opened_live, saved_live, clocked_live, voted_live, propose_live, take_up_live, candidate_held}
use Rattle.liveness.proofs.Ways.{tick_ways, propose_ways, Voiced, hear_ways, other_kind}
use Rattle.liveness.proofs.Induct.{along, stepped, done_open}

pub T_is : (b : Bool) → T b → b ≡ true
T_is true t = refl
T_is false t = absurd t

-- what is sealed stays sealed
pub sealed_on : (pit : Pit) (more ls : Sheet) (j : ℕ) (st : Statement) → Sealed pit ls j st → Sealed pit (more ++ ls) j st
sealed_on pit more ls j st h = (spot_later more h.0, h.1, h.2)

pub lifted : (pit : Pit) (i : ℕ) (l : Line) (ls : Sheet) (s : State) → Live pit i ls s → Live pit i (l ∷ ls) s
lifted pit i l ls s v = record {
  size = v.size;
  own = v.own;
  slots = v.slots;
  clock = v.clock;
  ledger = later_live (pit.table i) s.seat.n (Led pit ls) (Led pit (l ∷ ls)) (λ k f sound. sealed_on pit (l ∷ []) ls _ _ (f sound)) s.view
      s.view s.ledger (omega arith) v.ledger;
  chosen = v.chosen;
  candidate_led = λ name e sound. sealed_on pit (l ∷ []) ls _ _ (v.candidate_led name e sound);
}

-- what is known of an outcome of line l at console i
pub record Facts (pit : Pit) (i : ℕ) (l : Line) (ls : Sheet) (o : Outcome) : Type 0 where
  pub sealing : (st : Statement) → o.sealed ≡ Some st → pit.table i i st l.seal ≡ true
  pub relied : (v : Vouched) → Memᴰ v o.relied → Sound pit v.signer → Sealed pit ls v.signer v.statement
  pub noted : (st : Statement) → o.sealed ≡ Some st → Sealed pit (l ∷ ls) i st

-- a turn that is spent at its console is of a view that it leads
abbrev pub Leads : Pit → ℕ → Call → Type 0
Leads pit i call = (owed : Owed) → Spends call owed → owed.console ≡ i → leader pit.n owed.view ≡ i

module _ (pit : Pit) (good : SoundPit pit) (i : ℕ) (below : i < pit.n) (l : Line) (ls : Sheet) where
  abbrev Kept : Outcome → Type 0
  Kept o = Facts pit i l ls o → Live pit i (l ∷ ls) o.state

  some_consoles : (s : State) → Live pit i (l ∷ ls) s → 1 ≤ s.seat.n
  some_consoles s v = omega (arith, v.size, good.four)

  tick_kept : (s : State) (t : ℕ) → Live pit i (l ∷ ls) s → Kept (tick l.seal s t)
  unfolding vote_for
  tick_kept s t v =
      tick_ways l.seal s t Kept (λ r e f. v)
      (λ u f. saved_live pit i (l ∷ ls) (clocked s t) _ (clocked_live pit i (l ∷ ls) s t u.taken.later v))
      (λ u f. clocked_live pit i (l ∷ ls) s t u.later v)
      (λ b c f.
      let moved = clocked_live pit i (l ∷ ls) s t c.taken.later v in
      let ok : pit.table i s.seat.own (votes_for (block_key b)) l.seal ≡ true =
      subst (λ (j : ℕ). pit.table i j (votes_for (block_key b)) l.seal ≡ true) (sym v.own) (f.sealing (votes_for (block_key b)) refl) in
      voted_live pit i (l ∷ ls) (saved (clocked s t) (marks_voted s.marks (view_of t) b.body.parent.view)) (block_key b) s.seat.own l.seal b
      (candidate_held (clocked s t) b c.choice) (omega (arith, v.own, below, good.sixteen)) ok
      (saved_live pit i (l ∷ ls) (clocked s t) _ moved))

  propose_kept : (s : State) (owed : Owed) (orders : List Order) (space : ℕ) → (owed.console ≡ i → leader pit.n owed.view ≡ i)
      → Live pit i (l ∷ ls) s → Kept (propose l.seal s owed orders space)
  unfolding propose_body
  propose_kept s owed orders space leads v =
      propose_ways l.seal s owed orders space Kept (λ r f. v)
      (λ w f.
      let mine = leads (w.own_turn ∙ v.own) in
      propose_live pit i (l ∷ ls) s (body_on_top s owed orders) l.seal (some_consoles s v) (omega (arith, v.clock, w.at_tick))
      (λ sound. subst (λ (j : ℕ). Sealed pit (l ∷ ls) j (proposes (body_key (body_on_top s owed orders)))) (sym mine) (sealed_here f))
      v)
    where
      sealed_here : Facts pit i l ls (propose_body (body_on_top s owed orders) l.seal s) → Sealed pit (l ∷ ls) i (proposes (body_key (body_on_top s owed orders)))
      sealed_here f = f.noted (proposes (body_key (body_on_top s owed orders))) refl

  hear_kept : (s : State) (bytes : List ℕ) → Live pit i (l ∷ ls) s → Kept (hear (pit.table i) s bytes)
  unfolding take_up count_vote
  hear_kept s bytes v =
      hear_ways (pit.table i) s bytes Kept (λ r f. v) (λ f. v)
      (λ p w f.
      let r = read_proposal s.seat.n bytes p w.reads in
      take_up_live pit i (l ∷ ls) s p (some_consoles s v) w.good.not_ahead
      (omega (arith, r.above, ap (λ (k : Key). k.view) r.names_parent, w.good.not_ahead)) w.good.certificate
      (λ sound. sealed_on pit (l ∷ []) ls _ _ (relied_on p f sound)) v)
      (λ x b w f.
      counted x b w)
    where
      relied_on : (p : Proposal) → Facts pit i l ls (take_up p s)
          → Sound pit (leader pit.n p.body.view) → Sealed pit ls (leader pit.n p.body.view) (proposes (body_key p.body))
      relied_on p f sound =
          subst (λ (n : ℕ). Sound pit (leader n p.body.view) → Sealed pit ls (leader n p.body.view) (proposes (body_key p.body))) v.size
          (λ h. f.relied _ (Memᴰ.head refl) h) sound

      counted : (x : Vote) (b : Block) → Voiced (pit.table i) s bytes x b → Live pit i (l ∷ ls) (count_vote x s).state
      counted x b w =
          let r = read_vote s.seat.n bytes x w.reads in
          voted_live pit i (l ∷ ls) s x.block x.voter x.seal b w.holds (omega (arith, r.voter_below, v.size, good.sixteen)) w.seal v

  pub step_kept : (s : State) (call : Call) → Leads pit i call → Live pit i ls s → Kept (step (pit.table i) l.seal s call)
  step_kept s (opening slots) leads v = λ f. opened_live pit i (l ∷ ls) (seat_over s.seat slots) s.store v.size v.own
  step_kept s (ticking t) leads v = tick_kept s t (lifted pit i l ls s v)
  step_kept s (proposing owed orders space) leads v = propose_kept s owed orders space (leads owed refl) (lifted pit i l ls s v)
  step_kept s (passing owed) leads v = λ f. lifted pit i l ls s v
  step_kept s (hearing bytes) leads v = hear_kept s bytes (lifted pit i l ls s v)

-- ---- seats and turns

numbers : {s w : Seat} → w ≡ s → (w.n ≡ s.n) × (w.own ≡ s.own)
numbers e = (ap (λ (x : Seat). x.n) e, ap (λ (x : Seat). x.own) e)

-- a call leaves the number of consoles and the own number
seat_kept : (table : Table) (seal : List ℕ) (s : State) (call : Call)
    → ((step table seal s call).state.seat.n ≡ s.seat.n) × ((step table seal s call).state.seat.own ≡ s.seat.own)
seat_kept table seal s (opening slots) = (refl, refl)
seat_kept table seal s (ticking t) = numbers (step_on table seal s (ticking t) refl).seat
seat_kept table seal s (proposing owed orders space) = numbers (step_on table seal s (proposing owed orders space) refl).seat
seat_kept table seal s (passing owed) = (refl, refl)
seat_kept table seal s (hearing bytes) = numbers (step_on table seal s (hearing bytes) refl).seat

pub seats : (pit : Pit) (i : ℕ) (ls : Sheet) (s : State) → state_at pit i ls ≡ Some s → (s.seat.n ≡ pit.n) × (s.seat.own ≡ i)
seats pit i =
    along pit i (λ ls s. (s.seat.n ≡ pit.n) × (s.seat.own ≡ i)) (λ l ls slots e. (refl, refl)) (λ l ls s h. h)
    (λ l ls s e k h. let f = seat_kept (pit.table i) l.seal s l.call in (f.0 ∙ h.0, f.1 ∙ h.1))

abbrev LeadsTurn : State → Owed → Outcome → Type 0
LeadsTurn s owed o = o.answer ≡ turn owed → leader s.seat.n owed.view ≡ s.seat.own

-- a turn is answered to the leader of its view
turn_led : (table : Table) (seal : List ℕ) (s : State) (call : Call) (owed : Owed) → (step table seal s call).answer ≡ turn owed
    → leader s.seat.n owed.view ≡ s.seat.own
unfolding vote_for propose_body take_up count_vote
turn_led table seal s (opening slots) owed = other_kind _ _ refl
turn_led table seal s (ticking t) owed =
    tick_ways seal s t (LeadsTurn s owed) (λ r _. other_kind _ _ refl)
    (λ u e.
    let v : view_of t ≡ owed.view = cc in
    let a = and_parts (eqb (leader s.seat.n (view_of t)) s.seat.own) _ u.may in
    ap (leader s.seat.n) (sym v) ∙ eqb-true _ _ a.0)
    (λ u. other_kind _ _ refl) (λ b c. other_kind _ _ refl)
turn_led table seal s (proposing spent orders space) owed =
    propose_ways seal s spent orders space (LeadsTurn s owed) (λ r. other_kind _ _ refl) (λ w. other_kind _ _ refl)
turn_led table seal s (passing spent) owed = other_kind _ _ refl
turn_led table seal s (hearing bytes) owed =
    hear_ways table s bytes (LeadsTurn s owed) (λ r. other_kind _ _ refl) (other_kind _ _ refl) (λ p w. other_kind _ _ refl) (λ x b w. other_kind _ _ refl)

-- a turn that was answered was its console's, of a view that it leads
turn_from : (pit : Pit) (l : Line) (ls : Sheet) (owed : Owed) → answer_in (done pit l ls) ≡ Some (turn owed)
    → leader pit.n owed.view ≡ l.console
turn_from pit l ls owed e = at (state_at pit l.console ls) refl e
  where
    first : (c : Call) → answer_in (first_opening pit l.console c) ≡ Some (turn owed) → ⊥
    first (opening slots) h = other_kind opens (turn owed) refl (same_some opens (turn owed) h)
    first (ticking t) h = absent _ h
    first (proposing o orders space) h = absent _ h
    first (passing o) h = absent _ h
    first (hearing bytes) h = absent _ h

    at : (o : Option State) → state_at pit l.console ls ≡ o → answer_in (advance pit l o) ≡ Some (turn owed)
        → leader pit.n owed.view ≡ l.console
    at None k h = absurd (first l.call h)
    at (Some s) k h =
        let g = seats pit l.console ls s k in
        let a : (stepped pit l.console l s).answer ≡ turn owed = same_some _ (turn owed) h in
        ap (λ (n : ℕ). leader n owed.view) (sym g.0) ∙ turn_led (pit.table l.console) l.seal s l.call owed a ∙ g.1

pub leads : (pit : Pit) (i : ℕ) (l : Line) (ls : Sheet) → SoundSheet pit (l ∷ ls) → l.console ≡ i → Leads pit i l.call
leads pit i l ls s e owed spends own =
    let c = s.turns.came (newest l ls) owed spends (own ∙ sym e) in
    turn_from pit c.0.line c.0.earlier owed c.2 ∙ c.1 ∙ own

-- what is known of what the newest line did
pub facts : (pit : Pit) (i : ℕ) (l : Line) (ls : Sheet) → SoundSheet pit (l ∷ ls) → l.console ≡ i → (s : State) → state_at pit i ls ≡ Some s
    → Facts pit i l ls (stepped pit i l s)
facts pit i l ls good e s h =
    let d = done_open pit i l ls s e h in
    record {
      sealing = λ st k.
          let t = T_is _ (good.sealing (newest l ls) st (ap sealed_in d ∙ k)) in
          subst (λ (j : ℕ). pit.table j j st l.seal ≡ true) e t;
      relied = λ v m. good.seals (newest l ls) v (subst (λ (o : Option Outcome). Memᴰ v (relied_in o)) (sym d) m);
      noted = λ st k. (newest l ls, e, ap sealed_in d ∙ k);
    }

pub live_run : (pit : Pit) (i : ℕ) (below : i < pit.n) (ls : Sheet) (s : State) → state_at pit i ls ≡ Some s → SoundSheet pit ls → Live pit i ls s
live_run pit i below =
    along pit i (λ ls s. SoundSheet pit ls → Live pit i ls s)
    (λ l ls slots e good. opened_live pit i (l ∷ ls) (record { n = pit.n; own = i; slots = slots }) no_marks refl refl)
    (λ l ls s h good. lifted pit i l ls s (h (sound_earlier pit (l ∷ []) ls good)))
    (λ l ls s e k h good.
    step_kept pit good.the_pit i below l ls s l.call (leads pit i l ls good e) (h (sound_earlier pit (l ∷ []) ls good)) (facts pit i l ls good e s k))
