-- What a call does to a console's clock, and to its last vote.
use Rattle.std.proofs.Common.{◌≡◌, ℕ, ◌%◌, false, ◌⊎◌, List, refl, inl, inr}
use Rattle.std.proofs.lemmas.Bool.{both_ways}
use Rattle.rules.specs.declared.refusal.Refusal.{Refusal}
use Rattle.rules.specs.Call.{Call, opening, ticking, proposing, passing, hearing, step}
use Rattle.rules.specs.Hear.{count_vote}
use Rattle.rules.specs.Propose.{propose_body}
use Rattle.rules.specs.State.{State, Table}
use Rattle.rules.specs.Step.{refused, Outcome}
use Rattle.rules.specs.Tick.{tick, vote_for}
use Rattle.sheets.specs.Sheet.{is_opening}
use Rattle.safety.proofs.Grounds.{TickStands}
use Rattle.liveness.proofs.Ways.{tick_ways, propose_ways, hear_ways, take_up_ways}

-- the last vote is the same
abbrev pub SameVote : State → State → Type 0
SameVote s w = (w.marks.voted ≡ s.marks.voted) × (w.marks.lock ≡ s.marks.lock)

-- nothing happened to clock or vote; or a tick was taken, with a vote only if it was odd
abbrev pub Clocks : Call → State → State → Type 0
Clocks call s w =
    ((w.tick ≡ s.tick) × SameVote s w)
    ⊎ ((u : ℕ) × (call ≡ ticking u) × (w.tick ≡ u) × (SameVote s w ⊎ (u % 2 ≡ 1)))

pub step_clock : (table : Table) (seal : List ℕ) (s : State) (call : Call) → is_opening call ≡ false → Clocks call s (step table seal s call).state
unfolding vote_for propose_body count_vote
step_clock table seal s (opening slots) e = absurd (both_ways _ e refl)
step_clock table seal s (ticking t) e =
    tick_ways seal s t (λ (o : Outcome). Clocks (ticking t) s o.state) (λ r _. inl (refl, (refl, refl)))
    (λ u. inr (t, refl, refl, inl (refl, refl))) (λ u. inr (t, refl, refl, inl (refl, refl))) (λ b c. inr (t, refl, refl, inr c.odd))
step_clock table seal s (proposing owed orders space) e =
    propose_ways seal s owed orders space (λ (o : Outcome). Clocks (proposing owed orders space) s o.state) (λ r. inl (refl, (refl, refl)))
    (λ w. inl (refl, (refl, refl)))
step_clock table seal s (passing owed) e = inl (refl, (refl, refl))
step_clock table seal s (hearing bytes) e =
    hear_ways table s bytes (λ (o : Outcome). Clocks (hearing bytes) s o.state) (λ r. inl (refl, (refl, refl))) (inl (refl, (refl, refl)))
    (λ p w. take_up_ways p s (Clocks (hearing bytes) s) (λ _. inl (refl, (refl, refl))) (λ _. inl (refl, (refl, refl))))
    (λ x b w. inl (refl, (refl, refl)))

-- a tick that was not refused was taken
pub tick_taken : (seal : List ℕ) (s : State) (t : ℕ) → ((r : Refusal) → (tick seal s t).answer ≡ refused r → ⊥)
    → TickStands s t × ((tick seal s t).state.tick ≡ t)
unfolding vote_for
tick_taken seal s t =
    tick_ways seal s t (λ (o : Outcome). ((r : Refusal) → o.answer ≡ refused r → ⊥) → TickStands s t × (o.state.tick ≡ t))
    (λ r _ n. absurd (n r refl)) (λ u n. (u.taken, refl)) (λ u n. (u, refl)) (λ b c n. (c.taken, refl))
