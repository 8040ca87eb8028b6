-- A test of what the lines of a stretch did, which shows that the stretch is timely. It asks for a little more: no line of
-- the stretch is refused at all.
use Rattle.std.proofs.Common.{◌≡◌, ℕ, ◌+◌, ◌*◌, ◌<◌, ◌≤◌, Bool, true, not, ◌&&◌, ◌||◌, T, eqb, ltb, leb, ◌⊎◌, List, length, Some, sym, refl, ap, ◌∙◌, subst, inl, inr, arith, le→leb, eqb→eq, ltb→lt, lt→ltb, leb→le, T_not}
use lib.Dec.{not_T}
use Rattle.std.specs.Str.{bytes_eq}
use Rattle.wire.specs.Format.{same_key}
use Rattle.wire.specs.declared.body.Body.{Body}
use Rattle.wire.specs.declared.key.Key.{Key}
use Rattle.wire.specs.declared.statement.Statement.{Statement}
use Rattle.rules.specs.declared.block.Block.{Block}
use Rattle.rules.specs.declared.refusal.Refusal.{Refusal}
use Rattle.rules.specs.declared.refusal.Refusal.TheVariants.{ShelfFull}
use Rattle.rules.specs.Blocks.{held}
use Rattle.rules.specs.Call.{hearing, ticking}
use Rattle.rules.specs.Pit.{leader}
use Rattle.rules.specs.Settle.{reaches}
use Rattle.rules.specs.State.{State}
use Rattle.rules.specs.Step.{refused, Owed}
use Rattle.sheets.specs.Sheet.{Pit, Sound, Sheet, Spot, state_at, did, answer_in, handed_in, shown_in, is_opening}
use Rattle.sheets.specs.Timely.{Stretch, Timely, Inside, CameBefore, Made, made_in, tick_in, Proposed, HoldsUpTo, OpenWith, HandsOver}
use Rattle.witness.proofs.Calls.{accepted, heard_is, heard_of, is_proposing, is_tick, is_tick_from, proposing_is, tick_is, tick_of}
use Rattle.witness.proofs.Run.{Entry, Trace, Passes, at_every, at_some, entry, every, length_run, run, some, state_in, state_run}
use Rattle.witness.proofs.Same.{body_among, body_is, bytes_same, key_is, same_body}
use Rattle.witness.proofs.Tests.{any_of, at_below, at_sound, below, both, each_sound, either, given, if_then, is_some, joint, of_some, on_some, some_is}

-- No line takes tick t.
abbrev other_tick : ℕ → Entry → Trace → Bool
other_tick t e es = not (is_tick t e.line.call)

unfoldable pub nowhere : ℕ → Trace → Bool
nowhere t es = every (other_tick t) es

pub nowhere_is : (pit : Pit) (t : ℕ) (sheet : Sheet) → T (nowhere t (run pit sheet))
    → (p : Spot sheet) → p.line.call ≡ ticking t → ⊥
unfolding nowhere
nowhere_is pit t sheet s p e =
    T_not (is_tick t p.line.call) (at_every pit (other_tick t) s p) (is_tick_from t p.line.call e)

-- The shelf holds all blocks after the head up to that of the key.
abbrev reaches_head : State → Block → Bool
reaches_head s b = reaches s.ledger.shelf s.ledger.head b

abbrev holds_up_to : Key → State → Bool
holds_up_to k s = same_key k s.ledger.head || is_some (reaches_head s) (held k s.ledger.shelf)

holds_is : (k : Key) (s : State) → T (holds_up_to k s) → HoldsUpTo s k
holds_is k s t = pick (either (same_key k s.ledger.head) (is_some (reaches_head s) (held k s.ledger.shelf)) t)
  where
    pick : T (same_key k s.ledger.head) ⊎ T (is_some (reaches_head s) (held k s.ledger.shelf)) → HoldsUpTo s k
    pick (inl e) = inl (key_is k s.ledger.head e)
    pick (inr e) = inr (some_is (reaches_head s) (held k s.ledger.shelf) e)

-- Places on the sheet, by the number of lines before them.
abbrev inside : ℕ → Trace → Bool
inside from es = leb from (length es)

abbrev came_before : Trace → Trace → Bool
came_before es fs = ltb (length es) (length fs)

-- The tests: `from` lines stand before the stretch of view v, `whole` is what the lines up to its end did.
module _ (pit : Pit) (v from : ℕ) (whole : Trace) where
  -- before it all are open, and have neither voted nor proposed in v or later
  abbrev rested : State → Bool
  rested s = ltb s.marks.voted v && ltb s.marks.proposed v

  abbrev ready_state : State → Bool
  ready_state s = ltb s.tick (2 * v) && rested s

  abbrev all_ready : Trace → Bool
  all_ready es = each_sound pit (λ i. is_some ready_state (state_in i es))

  -- no console opens, nothing is refused, no other ticks
  abbrev good_tick : ℕ → Bool
  good_tick t = leb (2 * v) t && ltb t (2 * v + 4)

  abbrev no_opening : Entry → Bool
  no_opening e = not (is_opening e.line.call)

  abbrev good_call : Entry → Bool
  good_call e = on_some good_tick (tick_of e.line.call) && on_some accepted (answer_in e.outcome)

  abbrev calm : Entry → Trace → Bool
  calm e es = if_then (inside from es) (λ _. no_opening e && good_call e)

  -- all take the four ticks
  abbrev takes : ℕ → ℕ → Entry → Trace → Bool
  takes t i e es = inside from es && (eqb e.line.console i && is_tick t e.line.call)

  abbrev takes_four : ℕ → Bool
  takes_four i = below (λ k. some (takes (2 * v + k) i) whole) 4

  -- what is heard was made after all took its tick
  abbrev takes_before : Trace → ℕ → ℕ → Entry → Trace → Bool
  takes_before es t i e fs = takes t i e fs && came_before fs es

  abbrev all_took : Trace → ℕ → Bool
  all_took es t = each_sound pit (λ i. some (takes_before es t i) whole)

  abbrev makes : List ℕ → Entry → Bool
  makes bytes e = is_some (bytes_eq bytes) (made_in e.outcome)

  abbrev made_before : Trace → List ℕ → Entry → Trace → Bool
  made_before es bytes e fs = inside from fs && (came_before fs es && makes bytes e)

  abbrev took_first : Trace → List ℕ → Entry → Trace → Bool
  took_first es bytes e fs = if_then (made_before es bytes e fs) (λ _. all_took es (tick_in e.outcome))

  abbrev tick_first : Entry → Trace → Bool
  tick_first e es = on_some (λ bytes. every (took_first es bytes) whole) (heard_of e.line.call)

  -- what is made is heard by all others before the next tick
  abbrev hears : List ℕ → Entry → Bool
  hears bytes e = is_some (bytes_eq bytes) (heard_of e.line.call)

  abbrev takes_later : Trace → ℕ → Entry → Trace → Bool
  takes_later es t e fs = if_then (inside from fs && is_tick t e.line.call) (λ _. came_before es fs)

  abbrev hears_in_time : Trace → ℕ → List ℕ → ℕ → Entry → Trace → Bool
  hears_in_time es t bytes j e fs =
      (came_before es fs && (eqb e.line.console j && hears bytes e)) && every (takes_later fs (t + 1)) whole

  abbrev other_hears : Entry → Trace → List ℕ → ℕ → Bool
  other_hears e es bytes j =
      if_then (not (eqb j e.line.console)) (λ _. some (hears_in_time es (tick_in e.outcome) bytes j) whole)

  abbrev others_hear : Entry → Trace → Bool
  others_hear e es = on_some (λ bytes. each_sound pit (other_hears e es bytes)) (made_in e.outcome)

  abbrev in_time : Entry → Trace → Bool
  in_time e es = if_then (inside from es) (λ _. others_hear e es)

  -- the leader of view u proposes b; for the first view all stand on its top certificate
  abbrev owes : ℕ → Owed
  owes u = record { console = leader pit.n u; view = u }

  abbrev its_turn : ℕ → Entry → Bool
  its_turn u e = eqb e.line.console (leader pit.n u) && is_proposing (owes u) e.line.call

  abbrev shows : Body → Entry → Bool
  shows b e = is_some (λ x. same_body x b) (shown_in e.outcome)

  abbrev makes_some : Entry → Bool
  makes_some e = is_some (λ _. true) (made_in e.outcome)

  abbrev leads : ℕ → Body → Entry → Trace → Bool
  leads u b e es = (inside from es && its_turn u e) && (shows b e && makes_some e)

  abbrev high_enough : State → State → Bool
  high_enough l s = leb s.marks.lock l.ledger.top.block.view

  abbrev stands_on : State → State → Bool
  stands_on l s = high_enough l s && holds_up_to l.ledger.top.block s

  abbrev all_stand : Trace → State → Bool
  all_stand es l = each_sound pit (λ i. is_some (stands_on l) (state_in i es))

  abbrev top_reached : Trace → Bool
  top_reached es = on_some (all_stand es) (state_in (leader pit.n v) es)

  abbrev leads_first : Body → Entry → Trace → Bool
  leads_first b e es = leads v b e es && top_reached es

  -- all hand over the body
  abbrev hands : Body → Entry → Bool
  hands b e = any_of (λ x. same_body x b) (handed_in e.outcome)

  abbrev hands_over : Body → ℕ → Entry → Trace → Bool
  hands_over b i e es = inside from es && (eqb e.line.console i && hands b e)

  abbrev all_hand_over : Body → Bool
  all_hand_over b = each_sound pit (λ i. some (hands_over b i) whole)

  unfoldable pub punctual : Trace → Body → Body → Bool
  punctual before b c =
      (all_ready before && (each_sound pit takes_four && every calm whole))
      && ((every tick_first whole && every in_time whole)
      && ((some (leads_first b) whole && some (leads (v + 1) c) whole) && all_hand_over b))

-- What the tests say of a stretch.
module _ (pit : Pit) {sheet : Sheet} {v : ℕ} (st : Stretch sheet v) where
  abbrev whole : Trace
  whole = run pit st.run

  abbrev from : ℕ
  from = length st.before

  abbrev older : Spot st.run → Trace
  older p = run pit p.earlier

  abbrev at : Spot st.run → Entry
  at p = entry pit p.line p.earlier

  inside_is : (p : Spot st.run) → T (inside from (older p)) → Inside st p
  inside_is p t = subst (λ k. from ≤ k) (length_run pit p.earlier) (leb→le from (length (older p)) t)

  is_inside : (p : Spot st.run) → Inside st p → T (inside from (older p))
  is_inside p h = le→leb from (length (older p)) (subst (λ k. from ≤ k) (sym (length_run pit p.earlier)) h)

  before_is : (p q : Spot st.run) → T (came_before (older p) (older q)) → CameBefore st p q
  before_is p q t =
      let long = length_run pit p.earlier in
      let longer = length_run pit q.earlier in
      let order = ltb→lt (length (older p)) (length (older q)) t in
      omega arith

  is_before : (p q : Spot st.run) → CameBefore st p q → T (came_before (older p) (older q))
  is_before p q h =
      let long = length_run pit p.earlier in
      let longer = length_run pit q.earlier in
      lt→ltb (length (older p)) (length (older q)) (omega arith)

  ready_is : T (all_ready pit v from whole (run pit st.before)) → (i : ℕ) → Sound pit i
      → OpenWith pit i st.before (λ s. (s.tick < 2 * v) × (s.marks.voted < v) × (s.marks.proposed < v))
  ready_is t i sound =
      let test : State → Bool = ready_state pit v from whole in
      let mine = at_sound pit (λ j. is_some test (state_in j (run pit st.before))) t i sound in
      let found = some_is test (state_in i (run pit st.before)) mine in
      let s : State = found.0 in
      let parts = both (ltb s.tick (2 * v)) (rested pit v from whole s) found.2 in
      let more = both (ltb s.marks.voted v) (ltb s.marks.proposed v) parts.1 in
      let low = ltb→lt s.tick (2 * v) parts.0 in
      let unvoted = ltb→lt s.marks.voted v more.0 in
      let unproposed = ltb→lt s.marks.proposed v more.1 in
      (s, sym (state_run pit i st.before) ∙ found.1, (low, unvoted, unproposed))

  -- the three parts of calm, at a spot of the stretch
  calm_at : T (every (calm pit v from whole) whole) → (p : Spot st.run) → Inside st p
      → T (not (is_opening p.line.call)) × T (on_some (good_tick pit v from whole) (tick_of p.line.call))
      × T (on_some accepted (answer_in (did pit p)))
  calm_at t p h =
      let unopened : Bool = not (is_opening p.line.call) in
      let ticks : Bool = on_some (good_tick pit v from whole) (tick_of p.line.call) in
      let answers : Bool = on_some accepted (answer_in (did pit p)) in
      let calm_here = at_every pit (calm pit v from whole) t p in
      let here = given (inside from (older p)) (λ _. unopened && (ticks && answers)) calm_here (is_inside p h) in
      let parts = both unopened (ticks && answers) here in
      let more = both ticks answers parts.1 in
      (parts.0, more.0, more.1)

  tick_bounds : T (every (calm pit v from whole) whole) → (p : Spot st.run) → Inside st p → (t : ℕ)
      → p.line.call ≡ ticking t → (2 * v ≤ t) × (t < 2 * v + 4)
  tick_bounds s p h t e =
      let good = of_some (good_tick pit v from whole) (tick_of p.line.call) t (calm_at s p h).1 (ap tick_of e) in
      let bounds = both (leb (2 * v) t) (ltb t (2 * v + 4)) good in
      (leb→le (2 * v) t bounds.0, ltb→lt t (2 * v + 4) bounds.1)

  unrefused : T (every (calm pit v from whole) whole) → (p : Spot st.run) → Inside st p → (r : Refusal)
      → answer_in (did pit p) ≡ Some (refused r) → ⊥
  unrefused s p h r e = of_some accepted (answer_in (did pit p)) (refused r) (calm_at s p h).2 e

  takes_is : (t i : ℕ) (p : Spot st.run) → Passes (takes pit v from whole t i) pit p
      → Inside st p × (p.line.console ≡ i) × (p.line.call ≡ ticking t)
  takes_is t i p s =
      let parts = both (inside from (older p)) (eqb p.line.console i && is_tick t p.line.call) s in
      let more = both (eqb p.line.console i) (is_tick t p.line.call) parts.1 in
      (inside_is p parts.0, eqb→eq p.line.console i more.0, tick_is t p.line.call more.1)

  four_taken : T (each_sound pit (takes_four pit v from whole)) → (i : ℕ) → Sound pit i → (k : ℕ) → k < 4
      → (p : Spot st.run) × Inside st p × (p.line.console ≡ i) × (p.line.call ≡ ticking (2 * v + k))
  four_taken t i s k h =
      let mine = at_sound pit (takes_four pit v from whole) t i s in
      let one = at_below (λ m. some (takes pit v from whole (2 * v + m) i) whole) 4 mine k h in
      let found = at_some pit (takes pit v from whole (2 * v + k) i) st.run one in
      let facts = takes_is (2 * v + k) i found.0 found.1 in
      (found.0, facts.0, facts.1, facts.2)

  ticked_first : T (every (tick_first pit v from whole) whole)
      → (q p : Spot st.run) (t : ℕ) (bytes : List ℕ) → Inside st q → CameBefore st q p → Made pit q t bytes
      → p.line.call ≡ hearing bytes → (i : ℕ) → Sound pit i
      → (r : Spot st.run) × Inside st r × CameBefore st r p × (r.line.console ≡ i) × (r.line.call ≡ ticking t)
  ticked_first s q p t bytes in_q q_first made heard i sound =
      let test : List ℕ → Entry → Trace → Bool = took_first pit v from whole (older p) in
      let here = at_every pit (tick_first pit v from whole) s p in
      let all = of_some (λ bs. every (test bs) whole) (heard_of p.line.call) bytes here (ap heard_of heard) in
      let sent : Bool = makes pit v from whole bytes (at q) in
      let sends : T sent = subst (λ o. T (is_some (bytes_eq bytes) o)) (sym made.message) (bytes_same bytes bytes refl) in
      let then_sends = joint (came_before (older q) (older p)) sent (is_before q p q_first) sends in
      let first = joint (inside from (older q)) (came_before (older q) (older p) && sent) (is_inside q in_q) then_sends in
      let took : ℕ → Bool = all_took pit v from whole (older p) in
      let made_so : Bool = made_before pit v from whole (older p) bytes (at q) (older q) in
      let then_took = given made_so (λ _. took (tick_in (did pit q))) (at_every pit (test bytes) all q) first in
      let took_t = subst (λ u. T (took u)) made.at_tick then_took in
      let mine = at_sound pit (λ j. some (takes_before pit v from whole (older p) t j) whole) took_t i sound in
      let found = at_some pit (takes_before pit v from whole (older p) t i) st.run mine in
      let r : Spot st.run = found.0 in
      let parts = both (takes pit v from whole t i (at r) (older r)) (came_before (older r) (older p)) found.1 in
      let facts = takes_is t i r parts.0 in
      (r, facts.0, before_is r p parts.1, facts.1, facts.2)

  later_is : (t : ℕ) (p : Spot st.run) → T (every (takes_later pit v from whole (older p) t) whole)
      → (r : Spot st.run) → Inside st r → r.line.call ≡ ticking t → CameBefore st p r
  later_is t p s r in_r e =
      let here = at_every pit (takes_later pit v from whole (older p) t) s r in
      let ticks : Bool = is_tick t r.line.call in
      let first = joint (inside from (older r)) ticks (is_inside r in_r) (is_tick_from t r.line.call e) in
      before_is p r (given (inside from (older r) && ticks) (λ _. came_before (older p) (older r)) here first)

  heard_in_time : T (every (in_time pit v from whole) whole)
      → (q : Spot st.run) (t : ℕ) (bytes : List ℕ) → Inside st q → Made pit q t bytes
      → (j : ℕ) → Sound pit j → (j ≡ q.line.console → ⊥)
      → (p : Spot st.run) × CameBefore st q p × (p.line.console ≡ j) × (p.line.call ≡ hearing bytes)
      × ((r : Spot st.run) → Inside st r → r.line.call ≡ ticking (t + 1) → CameBefore st p r)
  heard_in_time s q t bytes in_q made j sound other =
      let u : ℕ = tick_in (did pit q) in
      let test : List ℕ → ℕ → Bool = other_hears pit v from whole (at q) (older q) in
      let at_q = at_every pit (in_time pit v from whole) s q in
      let here = given (inside from (older q)) (λ _. others_hear pit v from whole (at q) (older q)) at_q (is_inside q in_q) in
      let all = of_some (λ bs. each_sound pit (test bs)) (made_in (did pit q)) bytes here made.message in
      let hearing_it : Entry → Trace → Bool = hears_in_time pit v from whole (older q) u bytes j in
      let own : Bool = eqb j q.line.console in
      let apart = not_T own (λ e. other (eqb→eq j q.line.console e)) in
      let found = at_some pit hearing_it st.run (given (not own) (λ _. some hearing_it whole) (at_sound pit (test bytes) all j sound) apart) in
      let p : Spot st.run = found.0 in
      let first : Bool = came_before (older q) (older p) in
      let hears_it : Bool = hears pit v from whole bytes (at p) in
      let parts = both (first && (eqb p.line.console j && hears_it)) (every (takes_later pit v from whole (older p) (u + 1)) whole) found.1 in
      let place = both first (eqb p.line.console j && hears_it) parts.0 in
      let more = both (eqb p.line.console j) hears_it place.1 in
      let console = eqb→eq p.line.console j more.0 in
      let next : u + 1 ≡ t + 1 = ap (λ k. k + 1) made.at_tick in
      let in_good_time = subst (λ k. T (every (takes_later pit v from whole (older p) k) whole)) next parts.1 in
      (p, before_is q p place.0, console, heard_is p.line.call bytes more.1, later_is (t + 1) p in_good_time)

  proposed_at : (u : ℕ) (b : Body) (p : Spot st.run) → Passes (leads pit v from whole u b) pit p
      → (x : Proposed pit st u) × (x.spot ≡ p) × (x.body ≡ b)
  proposed_at u b p t =
      let o : Owed = owes pit v from whole u in
      let turn : Bool = its_turn pit v from whole u (at p) in
      let shown : Bool = shows pit v from whole b (at p) in
      let made : Bool = makes_some pit v from whole (at p) in
      let halves = both (inside from (older p) && turn) (shown && made) t in
      let place = both (inside from (older p)) turn halves.0 in
      let call = both (eqb p.line.console (leader pit.n u)) (is_proposing o p.line.call) place.1 in
      let spends = proposing_is o p.line.call call.1 in
      let results = both shown made halves.1 in
      let body = some_is (λ x. same_body x b) (shown_in (did pit p)) results.0 in
      let message = some_is (λ _. true) (made_in (did pit p)) results.1 in (
        record {
          spot = p;
          inside = inside_is p place.0;
          at_leader = eqb→eq p.line.console (leader pit.n u) call.0;
          owed = o;
          its_turn = refl;
          orders = spends.0;
          space = spends.1;
          call = spends.2;
          body = b;
          shows = body.1 ∙ ap Some (body_is body.0 b body.2);
          bytes = message.0;
          message = message.1;
        },
        refl,
        refl,
      )

  top_is : (p : Spot st.run) → T (top_reached pit v from whole (older p))
      → (l : State) → state_at pit (leader pit.n v) p.earlier ≡ Some l → (i : ℕ) → Sound pit i
      → OpenWith pit i p.earlier
      (λ s. (s.marks.lock ≤ l.ledger.top.block.view) × HoldsUpTo s l.ledger.top.block)
  top_is p t l e i sound =
      let test : State → Bool = stands_on pit v from whole l in
      let leader_state = state_run pit (leader pit.n v) p.earlier ∙ e in
      let all = of_some (all_stand pit v from whole (older p)) (state_in (leader pit.n v) (older p)) l t leader_state in
      let mine = at_sound pit (λ j. is_some test (state_in j (older p))) all i sound in
      let found = some_is test (state_in i (older p)) mine in
      let s : State = found.0 in
      let top : Key = l.ledger.top.block in
      let parts = both (high_enough pit v from whole l s) (holds_up_to top s) found.2 in
      let high = leb→le s.marks.lock top.view parts.0 in
      (s, sym (state_run pit i p.earlier) ∙ found.1, (high, holds_is top s parts.1))

  hands_is : (b : Body) → T (all_hand_over pit v from whole b) → (i : ℕ) → Sound pit i → HandsOver pit st i b
  hands_is b t i sound =
      let mine = at_sound pit (λ j. some (hands_over pit v from whole b j) whole) t i sound in
      let found = at_some pit (hands_over pit v from whole b i) st.run mine in
      let p : Spot st.run = found.0 in
      let handed : Bool = hands pit v from whole b (at p) in
      let parts = both (inside from (older p)) (eqb p.line.console i && handed) found.1 in
      let more = both (eqb p.line.console i) handed parts.1 in
      let console = eqb→eq p.line.console i more.0 in
      (p, inside_is p parts.0, console, body_among b (handed_in (did pit p)) more.1)

  record Parts (b c : Body) : Type 0 where
    at_start : T (all_ready pit v from whole (run pit st.before))
    all_ticks : T (each_sound pit (takes_four pit v from whole))
    all_calm : T (every (calm pit v from whole) whole)
    ticks_first : T (every (tick_first pit v from whole) whole)
    all_heard : T (every (in_time pit v from whole) whole)
    one : T (some (leads_first pit v from whole b) whole)
    two : T (some (leads pit v from whole (v + 1) c) whole)
    over : T (all_hand_over pit v from whole b)

  parts_of : (b c : Body) → T (punctual pit v from whole (run pit st.before) b c) → Parts b c
  unfolding punctual
  parts_of b c t =
      let ready : Bool = all_ready pit v from whole (run pit st.before) in
      let four : Bool = each_sound pit (takes_four pit v from whole) in
      let quiet : Bool = every (calm pit v from whole) whole in
      let ticks : Bool = every (tick_first pit v from whole) whole in
      let heard : Bool = every (in_time pit v from whole) whole in
      let one : Bool = some (leads_first pit v from whole b) whole in
      let two : Bool = some (leads pit v from whole (v + 1) c) whole in
      let over : Bool = all_hand_over pit v from whole b in
      let all = both (ready && (four && quiet)) ((ticks && heard) && ((one && two) && over)) t in
      let front = both ready (four && quiet) all.0 in
      let middle = both four quiet front.1 in
      let back = both (ticks && heard) ((one && two) && over) all.1 in
      let radio = both ticks heard back.0 in
      let ending = both (one && two) over back.1 in
      let leaders = both one two ending.0 in
      record {
        at_start = front.0;
        all_ticks = middle.0;
        all_calm = middle.1;
        ticks_first = radio.0;
        all_heard = radio.1;
        one = leaders.0;
        two = leaders.1;
        over = ending.1;
      }

  abbrev pub Alike : Type 0
  Alike = (i j : ℕ) → Sound pit i → Sound pit j → (signer : ℕ) (s : Statement) (seal : List ℕ)
      → pit.table i signer s seal ≡ pit.table j signer s seal

  pub timely : (b c : Body) → 1 ≤ v → Sound pit (leader pit.n v) → Sound pit (leader pit.n (v + 1)) → Alike
      → T (punctual pit v from whole (run pit st.before) b c)
      → (t : Timely pit v st) × (t.first.body ≡ b) × ((i : ℕ) → Sound pit i → HandsOver pit st i b)
  timely b c positive sound_one sound_two alike t =
      let parts = parts_of b c t in
      let one = at_some pit (leads_first pit v from whole b) st.run parts.one in
      let p : Spot st.run = one.0 in
      let top = both (leads pit v from whole v b (at p) (older p)) (top_reached pit v from whole (older p)) one.1 in
      let first = proposed_at v b p top.0 in
      let reached : Spot st.run → Type 0 = λ q. T (top_reached pit v from whole (older q)) in
      let two = at_some pit (leads pit v from whole (v + 1) c) st.run parts.two in (
        record {
          positive = positive;
          leader_sound = sound_one;
          next_leader_sound = sound_two;
          all_ready = ready_is parts.at_start;
          takes_ticks = four_taken parts.all_ticks;
          no_other_tick = tick_bounds parts.all_calm;
          no_tick_refused = λ q h u e. unrefused parts.all_calm q h;
          no_opening = λ q h e. subst (λ x. T (not x)) e (calm_at parts.all_calm q h).0;
          tick_first = ticked_first parts.ticks_first;
          first = first.0;
          second = (proposed_at (v + 1) c two.0 two.1).0;
          in_time = heard_in_time parts.all_heard;
          top_reached = top_is first.0.spot (subst reached (sym first.1) top.1);
          room = λ q h e. unrefused parts.all_calm q h ShelfFull;
          alike = alike;
        },
        first.2,
        hands_is b parts.over,
      )
