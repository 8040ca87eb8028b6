-- The consoles in a timely stretch: they stay open, they grow, and their ticks lie as the stretch says.
use Rattle.std.proofs.Common.{◌≡◌, ℕ, ◌+◌, ◌-◌, ◌*◌, ◌<◌, ◌≤◌, false, List, [], ◌∷◌, ◌++◌, length, Some, Ok, sym, refl, ap, ◌∙◌, subst, inl, inr, ⊎_elim, arith, length-append}
use Rattle.std.proofs.lemmas.List.{append_assoc}
use Rattle.std.proofs.lemmas.Bool.{cases_Bool, cases_eq, cases_lt}
use Rattle.votes.specs.Votes.{Grows as MoreVotes}
use Rattle.wire.specs.Format.{proposal_bytes, vote_bytes}
use Rattle.wire.specs.Read.{read}
use Rattle.wire.specs.declared.body.Body.{Body}
use Rattle.wire.specs.declared.message.Message.TheVariants as message
use Rattle.wire.specs.declared.message.Vote.{Vote}
use Rattle.wire.specs.declared.order.Order.{Order}
use Rattle.rules.specs.declared.refusal.Refusal.{Refusal}
use Rattle.rules.specs.Call.{ticking, proposing, step}
use Rattle.rules.specs.State.{State}
use Rattle.rules.specs.Step.{Answer, refused, vote, Owed, Outcome}
use Rattle.rules.specs.Tick.{tick}
use Rattle.rules.specs.Options.{same_some}
use Rattle.sheets.specs.Sheet.{Pit, Sound, Sheet, Spot, state_at, did, answer_in, shown_in, is_opening}
use Rattle.sheets.specs.Sound.{SoundSheet}
use Rattle.sheets.specs.Timely.{Stretch, Timely, Inside}
use Rattle.safety.proofs.Grounds.{TickStands}
use Rattle.safety.proofs.Histories.{blocks, sound_earlier, state_other, history, grows_lines}
use Rattle.safety.proofs.Ledgers.{SoundLedger, ledger_grows}
use Rattle.safety.proofs.Runs.{sound_run}
use Rattle.sheets.specs.Sheet.{chain}
use Rattle.liveness.proofs.Clock.{SameVote, Clocks, step_clock, tick_taken}
use Rattle.liveness.proofs.Growth.{Grows, grows_same, grows_on, goes_grows, step_on}
use Rattle.liveness.proofs.Induct.{stepped, done_open, state_next}
use Rattle.liveness.proofs.Moments.{suffix, spot_lines}
use Rattle.liveness.proofs.Run.{live_run}
use Rattle.liveness.proofs.States.{Live}

-- what sound consoles made can be read
pub record Readable (pit : Pit) (lines : Sheet) : Type 0 where
  pub votes : (p : Spot lines) (x : Vote) → answer_in (did pit p) ≡ Some (vote x) → read pit.n (vote_bytes x) ≡ Ok (message.Vote x)
  pub proposals : (p : Spot lines) (s : State) (owed : Owed) (orders : List Order) (space : ℕ) (body : Body)
      → state_at pit p.line.console p.earlier ≡ Some s → p.line.call ≡ proposing owed orders space → shown_in (did pit p) ≡ Some body
      → read pit.n (proposal_bytes (record { body = body; certificate = s.ledger.top; seal = p.line.seal }))
      ≡ Ok (message.Proposal (record { body = body; certificate = s.ledger.top; seal = p.line.seal }))

-- a timely stretch of a sound sheet
pub record Case : Type 0 where
  pub pit : Pit
  pub sheet : Sheet
  pub v : ℕ
  pub st : Stretch sheet v
  pub timely : Timely pit v st
  pub good : SoundSheet pit st.run
  pub reads : Readable pit st.run

-- a moment of the stretch
pub record Now (c : Case) (m : Sheet) : Type 0 where
  pub later : Sheet
  pub here : c.st.run ≡ later ++ m
  pub inside : length c.st.before ≤ length m

-- a sound console at a moment of the stretch
pub record At (c : Case) (i : ℕ) (m : Sheet) (s : State) : Type 0 where
  pub sound : Sound c.pit i
  pub now : Now c m
  pub is : state_at c.pit i m ≡ Some s

module _ (c : Case) where
  abbrev Run : Sheet
  Run = c.st.run

  -- before and after the line at a spot
  pub before_spot : (p : Spot c.st.run) → Inside c.st p → Now c p.earlier
  before_spot p l = record { later = p.later ++ (p.line ∷ []); here = spot_lines p; inside = l }

  pub after_spot : (p : Spot c.st.run) → Inside c.st p → Now c (p.line ∷ p.earlier)
  after_spot p l = record { later = p.later; here = p.here; inside = omega (arith, l) }

  pub the_end : Now c c.st.run
  the_end = record {
    later = [];
    here = refl;
    inside = omega (arith, ap (λ (x : Sheet). length x) c.st.begins, length-append c.st.within (c.st.start ∷ c.st.before));
  }

  pub the_start : Now c c.st.before
  the_start = record {
    later = c.st.within ++ (c.st.start ∷ []);
    here = c.st.begins ∙ sym (append_assoc c.st.within (c.st.start ∷ []) c.st.before);
    inside = omega arith;
  }

  pub good_at : (m : Sheet) → Now c m → SoundSheet c.pit m
  good_at m n = sound_earlier c.pit n.later m (subst (SoundSheet c.pit) n.here c.good)

  -- ---- from one moment to a later one

  module _ (i : ℕ) (a : Sheet) (na : Now c a) (Q : State → State → Type 0) (stays : (s : State) → Q s s)
      (next : (p : Spot c.st.run) → Inside c.st p → length a ≤ length p.earlier → p.line.console ≡ i
      → (s w : State) → state_at c.pit i p.earlier ≡ Some w → Q s w → Q s (stepped c.pit i p.line w).state) where
    between : (x later : Sheet) → c.st.run ≡ later ++ (x ++ a) → (s : State) → state_at c.pit i a ≡ Some s
        → (w : State) × (state_at c.pit i (x ++ a) ≡ Some w) × Q s w
    between [] later e s h = (s, h, stays s)
    between (x ∷ xs) later e s h =
        let r = between xs (later ++ (x ∷ [])) (e ∙ sym (append_assoc later (x ∷ []) (xs ++ a))) s h in
        let p : Spot c.st.run = record { later = later; line = x; earlier = xs ++ a; here = e } in
        ⊎_elim
        (λ own. (
          (stepped c.pit i x r.0).state,
          state_next c.pit i x (xs ++ a) r.0 own r.1,
          next p (omega (arith, na.inside, length-append xs a)) (omega (arith, length-append xs a)) own s r.0 r.1 r.2,
        ))
        (λ other. (r.0, state_other c.pit x (xs ++ a) i other ∙ r.1, r.2))
        (cases_eq x.console i)

    pub onward : (b : Sheet) → Now c b → length a ≤ length b → (s : State) → state_at c.pit i a ≡ Some s
        → (w : State) × (state_at c.pit i b ≡ Some w) × Q s w
    onward b nb l s h =
        let z = suffix na.later a nb.later b (sym na.here ∙ nb.here) l in
        subst (λ (y : Sheet). (w : State) × (state_at c.pit i y ≡ Some w) × Q s w) (sym z.1)
        (between z.0 nb.later (nb.here ∙ ap (λ (y : Sheet). nb.later ++ y) z.1) s h)

    -- the same for two states at hand
    pub across : (b : Sheet) → Now c b → length a ≤ length b → (s w : State) → state_at c.pit i a ≡ Some s → state_at c.pit i b ≡ Some w → Q s w
    across b nb l s w h k =
        let r = onward b nb l s h in
        subst (Q s) (same_some r.0 w (sym r.1 ∙ k)) r.2

  pub not_opening : (p : Spot c.st.run) → Inside c.st p → is_opening p.line.call ≡ false
  not_opening p l = ⊎_elim (λ e. absurd (c.timely.no_opening p l e)) (λ e. e) (cases_Bool (is_opening p.line.call))

  -- ---- a console at a moment

  pub open_at : (i : ℕ) → Sound c.pit i → (m : Sheet) → Now c m → (s : State) × At c i m s
  open_at i sound m n =
      let r = c.timely.all_ready i sound in
      let o = onward i c.st.before the_start (λ s w. Unit {0}) (λ s. tt) (λ p l f e s w h q. tt) m n n.inside r.0 r.1 in
      (o.0, record { sound = sound; now = n; is = o.1 })

  pub live : (i : ℕ) (m : Sheet) (s : State) → At c i m s → Live c.pit i m s
  live i m s a = live_run c.pit i a.sound.0 m s a.is (good_at m a.now)

  pub ledger_sound : (i : ℕ) (m : Sheet) (s : State) → At c i m s → SoundLedger c.pit (history c.pit c.st.run) (chain c.pit i m) s.ledger
  ledger_sound i m s a =
      let r = ((sound_run c.pit m (good_at m a.now)).console i a.sound).open_state s a.is in
      ledger_grows c.pit (history c.pit m) (history c.pit c.st.run)
      (subst (λ (x : Sheet). MoreVotes blocks (history c.pit m) (history c.pit x)) (sym a.now.here) (grows_lines c.pit a.now.later m))
      (chain c.pit i m) s.ledger r.stands.ledger

  pub grown : (i : ℕ) (a b : Sheet) (s w : State) → At c i a s → At c i b w → length a ≤ length b → Grows s w
  grown i a b s w at_a at_b l =
      across i a at_a.now Grows grows_same
      (λ p k f e x y h q. grows_on x y (stepped c.pit i p.line y).state q
      (goes_grows y (stepped c.pit i p.line y) (step_on (c.pit.table i) p.line.seal y p.line.call (not_opening p k))))
      b at_b.now l s w at_a.is at_b.is

  -- ---- ticks

  -- the line at p is tick u at console i
  pub record Ticks (i u : ℕ) (p : Spot c.st.run) : Type 0 where
    pub inside : Inside c.st p
    pub console : p.line.console ≡ i
    pub call : p.line.call ≡ ticking u

  pub tick_line : (i : ℕ) → Sound c.pit i → (u : ℕ) → 2 * c.v ≤ u → u < 2 * c.v + 4 → (p : Spot c.st.run) × Ticks i u p
  tick_line i sound u l m =
      let r = c.timely.takes_ticks i sound (u - 2 * c.v) (omega (arith, l, m)) in
      let e : 2 * c.v + (u - 2 * c.v) ≡ u = omega (arith, l) in
      (r.0, record { inside = r.1; console = r.2; call = r.3 ∙ ap (λ (x : ℕ). ticking x) e })

  -- it was not refused
  pub not_refused : (i u : ℕ) (p : Spot c.st.run) → Ticks i u p → (s : State) → state_at c.pit i p.earlier ≡ Some s
      → (stepped c.pit i p.line s ≡ tick p.line.seal s u) × ((r : Refusal) → (tick p.line.seal s u).answer ≡ refused r → ⊥)
  not_refused i u p k s h =
      let d = done_open c.pit i p.line p.earlier s k.console h in
      let e : stepped c.pit i p.line s ≡ tick p.line.seal s u = ap (step (c.pit.table i) p.line.seal s) k.call in
      (e, λ r a. c.timely.no_tick_refused p k.inside u k.call r (ap answer_in d ∙ ap (λ (o : Outcome). Some o.answer) e ∙ ap (λ (x : Answer). Some x) a))

  -- it was taken
  pub taken_at : (i u : ℕ) (p : Spot c.st.run) → Ticks i u p → (s : State) → state_at c.pit i p.earlier ≡ Some s
      → TickStands s u × ((stepped c.pit i p.line s).state.tick ≡ u)
  taken_at i u p k s h =
      let n = not_refused i u p k s h in
      let r = tick_taken p.line.seal s u n.1 in
      (r.0, ap (λ (o : Outcome). o.state.tick) n.0 ∙ r.1)

  -- before it the clock stands below u, after it at u or above
  pub tick_below : (i u : ℕ) (p : Spot c.st.run) → Ticks i u p → (m : Sheet) (s : State) → At c i m s → length m ≤ length p.earlier → s.tick < u
  tick_below i u p k m s a l =
      let o = open_at i a.sound p.earlier (before_spot p k.inside) in
      let g = grown i m p.earlier s o.0 a o.1 l in
      omega (arith, g.tick, (taken_at i u p k o.0 o.1.is).0.later)

  pub tick_above : (i u : ℕ) (p : Spot c.st.run) → Ticks i u p → (m : Sheet) (s : State) → At c i m s → length p.earlier < length m → u ≤ s.tick
  tick_above i u p k m s a l =
      let o = open_at i a.sound p.earlier (before_spot p k.inside) in
      let t = taken_at i u p k o.0 o.1.is in
      let h = state_next c.pit i p.line p.earlier o.0 k.console o.1.is in
      let g = grown i (p.line ∷ p.earlier) m _ s (record { sound = a.sound; now = after_spot p k.inside; is = h }) a l in
      omega (arith, g.tick, t.1)

  -- no clock comes to the end of the stretch
  pub tick_capped : (i : ℕ) (m : Sheet) (s : State) → At c i m s → s.tick < 2 * c.v + 4
  tick_capped i m s a =
      let r = c.timely.all_ready i a.sound in
      across i c.st.before the_start (λ x y. x.tick < 2 * c.v + 4 → y.tick < 2 * c.v + 4) (λ x h. h)
      (λ p l f e x y h q b. capped p l y (step_clock (c.pit.table i) p.line.seal y p.line.call (not_opening p l)) (q b))
      m a.now a.now.inside r.0 s r.1 a.is (omega (arith, r.2.0))
    where
      capped : (p : Spot c.st.run) → Inside c.st p → (y : State) → Clocks p.line.call y (stepped c.pit i p.line y).state
          → y.tick < 2 * c.v + 4 → (stepped c.pit i p.line y).state.tick < 2 * c.v + 4
      capped p l y (inl same) b = omega (arith, same.0, b)
      capped p l y (inr moved) b = omega (arith, moved.2, (c.timely.no_other_tick p l moved.0 moved.1).1)

  -- where every tick u of the stretch is still to come, the clock stands below u
  pub tick_under : (i u : ℕ) (m : Sheet) (s : State) → At c i m s → 2 * c.v ≤ u → u ≤ 2 * c.v + 4
      → ((r : Spot c.st.run) → Inside c.st r → r.line.call ≡ ticking u → length m ≤ length r.earlier) → s.tick < u
  tick_under i u m s a l k all =
      ⊎_elim
      (λ less. let p = tick_line i a.sound u l less in
      tick_below i u p.0 p.1 m s a (all p.0 p.1.inside p.1.call))
      (λ more. omega (arith, tick_capped i m s a, more))
      (cases_lt u (2 * c.v + 4))

  -- ---- votes

  -- from a moment after which all ticks at console i are 2u or above, its last vote is the same until tick 2u + 1
  pub quiet : (i u : ℕ) (a b : Sheet) (s w : State) → At c i a s → At c i b w → length a ≤ length b
      → ((p : Spot c.st.run) → Inside c.st p → length a ≤ length p.earlier → p.line.console ≡ i → (x : ℕ) → p.line.call ≡ ticking x → 2 * u ≤ x)
      → w.tick < 2 * u + 1 → SameVote s w
  quiet i u a b s w at_a at_b l later =
      across i a at_a.now (λ x y. y.tick < 2 * u + 1 → SameVote x y) (λ x h. (refl, refl))
      (λ p k f e x y h q. moved p k f e x y h q (step_clock (c.pit.table i) p.line.seal y p.line.call (not_opening p k)))
      b at_b.now l s w at_a.is at_b.is
    where
      joins : (x y z : State) → SameVote x y → SameVote y z → SameVote x z
      joins x y z p q = (q.0 ∙ p.0, q.1 ∙ p.1)

      moved : (p : Spot c.st.run) → Inside c.st p → length a ≤ length p.earlier → p.line.console ≡ i
          → (x y : State) → state_at c.pit i p.earlier ≡ Some y → (y.tick < 2 * u + 1 → SameVote x y)
          → Clocks p.line.call y (stepped c.pit i p.line y).state
          → (stepped c.pit i p.line y).state.tick < 2 * u + 1 → SameVote x (stepped c.pit i p.line y).state
      moved p k f e x y h q (inl same) b = joins x y (stepped c.pit i p.line y).state (q (omega (arith, same.0, b))) same.1
      moved p k f e x y h q (inr (n, call, at_n, inl same)) b =
          let t = taken_at i n p (record { inside = k; console = e; call = call }) y h in
          joins x y (stepped c.pit i p.line y).state (q (omega (arith, t.0.later, at_n, b))) same
      moved p k f e x y h q (inr (n, call, at_n, inr odd)) b =
          absurd (omega (arith, later p k f e n call, at_n, b, odd))
