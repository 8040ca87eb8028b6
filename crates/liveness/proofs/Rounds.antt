-- One view of a timely stretch: the leader's block comes to all sound consoles, all vote for it, and all count all votes.
use Rattle.std.proofs.Common.{◌≡◌, ℕ, zero, suc, ◌+◌, ◌*◌, ◌%◌, ◌<◌, ◌≤◌, Bool, true, not, ◌&&◌, ◌||◌, eqb, ltb, leb, List, ◌∷◌, length, Some, None, Ok, Option, sym, refl, ap, ◌∙◌, subst, ap₂, ⊎_elim, arith}
use Rattle.std.proofs.lemmas.Bool.{and_from, cond-true, lt-ltb, le-leb, cases_eq, cases_lt, eq-eqb}
use Rattle.votes.specs.Quorum.{Holds, is_quorum}
use Rattle.votes.proofs.Weights.{counted}
use Rattle.wire.specs.Format.{body_key, proposal_bytes, vote_bytes, signed}
use Rattle.wire.specs.Read.{read}
use Rattle.wire.specs.declared.body.Body.{Body}
use Rattle.wire.specs.declared.certificate.Certificate.{Certificate}
use Rattle.wire.specs.declared.certificate.Signers.{Signers}
use Rattle.wire.specs.declared.key.Key.{Key}
use Rattle.wire.specs.declared.message.Message.TheVariants as message
use Rattle.wire.specs.declared.message.Proposal.{Proposal}
use Rattle.wire.specs.declared.message.Vote.{Vote}
use Rattle.wire.specs.declared.statement.Statement.{Statement}
use Rattle.rules.specs.declared.block.Block.{Block}
use Rattle.rules.specs.declared.refusal.Refusal.TheVariants.{ShelfFull}
use Rattle.rules.specs.Blocks.{On, block_key, held}
use Rattle.rules.specs.Call.{hearing, step}
use Rattle.rules.specs.Hear.{hear, proposes, votes_for, certificate_stands, seals_accepted}
use Rattle.rules.specs.Pit.{leader, view_of, shelf_size}
use Rattle.rules.specs.Propose.{propose, propose_body, body_on_top, fits_shelf}
use Rattle.rules.specs.Settle.{settle, enter}
use Rattle.rules.specs.State.{State, Ledger, Seat, Table, shelf_fits}
use Rattle.rules.specs.Step.{Answer, refused, Owed, Outcome}
use Rattle.rules.specs.Tick.{clocked, candidate_block, may_vote, vote_for}
use Rattle.rules.specs.Options.{same_some}
use Rattle.sheets.specs.Sheet.{Sound, Sheet, Spot, state_at, did, answer_in, shown_in, sealed_in}
use Rattle.sheets.specs.Sound.{Sealed}
use Rattle.sheets.specs.Timely.{Inside, Proposed, Made, made_in, made_message, tick_in}
use Rattle.safety.proofs.Grounds.{ProposeStands}
use Rattle.safety.proofs.Histories.{shown_sheet}
use Rattle.rules.specs.Shelves.{held_on}
use Rattle.liveness.proofs.Effects.{Holding, Counting, shows_proposal, proposed_tick, voted_state, vote_made, voted_outcome, proposed_holds, heard_holds, heard_counts, entered_counts, votes_now}
use Rattle.liveness.proofs.Induct.{stepped, done_open, state_next}
use Rattle.liveness.proofs.Run.{sealed_on, T_is}
use Rattle.liveness.proofs.States.{Led, candidate_held}
use Rattle.liveness.proofs.Stretches.{Case, Now, At, before_spot, after_spot, the_start, open_at, live, ledger_sound, grown, Ticks, tick_line, not_refused, taken_at, tick_below, tick_above, tick_under}
use Rattle.liveness.proofs.Unique.{one_proposal}

-- a view of the stretch, with its proposal
pub record Round (c : Case) : Type 0 where
  pub u : ℕ
  pub low : c.v ≤ u
  pub high : u ≤ c.v + 1
  pub lead : Sound c.pit (leader c.pit.n u)
  pub made : Proposed c.pit c.st u
  pub room : (p : Spot c.st.run) → Inside c.st p → p.line.call ≡ hearing made.bytes → answer_in (did c.pit p) ≡ Some (refused ShelfFull) → ⊥

-- the key of its block
abbrev pub key_of : (c : Case) → Round c → Key
key_of c r = body_key r.made.body

-- each console may vote for its block
abbrev pub Free : (c : Case) → Round c → Type 0
Free c r = (i : ℕ) (p : Spot c.st.run) → Ticks c i (2 * r.u + 1) p → (s : State) → At c i p.earlier s
    → (s.marks.voted < r.u) × (s.marks.lock ≤ r.made.body.parent.view)

-- ---- shelves fit

fits_by : (s : State) (n : ℕ) → length s.ledger.shelf ≡ n → s.seat.slots ≡ n → shelf_fits s ≡ (shelf_size n && eqb n n)
fits_by s n a b = ap₂ (λ (x y : ℕ). shelf_size x && eqb x y) a b

pub fits_at : (c : Case) (i : ℕ) (m : Sheet) (s : State) → At c i m s → shelf_fits s ≡ true
fits_at c i m s a =
    let p = tick_line c i a.sound (2 * c.v) (omega arith) (omega arith) in
    let o = open_at c i a.sound p.0.earlier (before_spot c p.0 p.1.inside) in
    let f = (taken_at c i (2 * c.v) p.0 p.1 o.0 o.1.is).0.fits in
    let z = open_at c i a.sound c.st.before (the_start c) in
    let g = grown c i c.st.before m z.0 s z.1 a a.now.inside in
    let h = grown c i c.st.before p.0.earlier z.0 o.0 z.1 o.1 p.1.inside in
    let same : o.0.seat.slots ≡ s.seat.slots = ap (λ (x : Seat). x.slots) (h.seat ∙ sym g.seat) in
    let n = s.seat.slots in
    fits_by s n (live c i m s a).slots refl
    ∙ sym (fits_by o.0 n ((live c i p.0.earlier o.0 o.1).slots ∙ same) same) ∙ f

-- ---- seals are accepted alike

accepted_alike : (t w : Table) → ((j : ℕ) (s : Statement) (seal : List ℕ) → t j s seal ≡ w j s seal) → (k : Key) (x : Signers) (m : ℕ)
    → seals_accepted t k x m ≡ seals_accepted w k x m
unfolding seals_accepted
accepted_alike t w e k x zero = refl
accepted_alike t w e k x (suc m) =
    ap₂ (λ (a b : Bool). a && b) (accepted_alike t w e k x m)
    (ap (λ (b : Bool). not (signed x.set m) || b) (e m (votes_for k) _))

stands_alike : (t w : Table) → ((j : ℕ) (s : Statement) (seal : List ℕ) → t j s seal ≡ w j s seal) → (n : ℕ) (x : Certificate)
    → certificate_stands t n x ≡ certificate_stands w n x
stands_alike t w e n x =
    ap (λ (b : Bool). eqb x.block.view 0 || (is_quorum n x.signers.set && b)) (accepted_alike t w e x.block x.signers 16)

-- ---- the proposal

module _ (c : Case) (r : Round c) where
  abbrev leads : ℕ
  leads = leader c.pit.n r.u

  abbrev proposed : State → Proposal
  proposed s = record { body = r.made.body; certificate = s.ledger.top; seal = r.made.spot.line.seal }

  pub record Launch : Type 0 where
    pub s : State
    pub at : At c (leader c.pit.n r.u) r.made.spot.earlier s
    pub stands : ProposeStands s r.made.owed r.made.orders r.made.space
    pub body : body_on_top s r.made.owed r.made.orders ≡ r.made.body
    pub outcome : did c.pit r.made.spot ≡ Some (propose_body r.made.body r.made.spot.line.seal s)

  pub launch : Launch
  launch =
      let p = r.made.spot in
      let o = open_at c leads r.lead p.earlier (before_spot c p r.made.inside) in
      let d = done_open c.pit leads p.line p.earlier o.0 r.made.at_leader o.1.is in
      let e : stepped c.pit leads p.line o.0 ≡ propose p.line.seal o.0 r.made.owed r.made.orders r.made.space =
      ap (step (c.pit.table leads) p.line.seal o.0) r.made.call in
      let shows : (propose p.line.seal o.0 r.made.owed r.made.orders r.made.space).shown ≡ Some r.made.body =
      ap (λ (x : Outcome). x.shown) (sym e) ∙ sym (ap shown_in d) ∙ r.made.shows in
      let f = shows_proposal p.line.seal o.0 r.made.owed r.made.orders r.made.space r.made.body shows in
      record {
        s = o.0;
        at = o.1;
        stands = f.0;
        body = f.1;
        outcome = d ∙ ap (λ (x : Outcome). Some x) (e ∙ f.2 ∙ ap (λ (b : Body). propose_body b p.line.seal o.0) f.1);
      }

  -- its turn is of view u, so is its tick and its body
  of_view : r.made.owed.view ≡ r.u
  of_view = ap (λ (x : Owed). x.view) r.made.its_turn

  pub body_view : r.made.body.view ≡ r.u
  body_view = ap (λ (b : Body). b.view) (sym launch.body) ∙ of_view

  pub parent_is_top : r.made.body.parent ≡ launch.s.ledger.top.block
  parent_is_top = ap (λ (b : Body). b.parent) (sym launch.body)

  pub launch_tick : launch.s.tick ≡ 2 * r.u
  launch_tick = omega (arith, launch.stands.at_tick, of_view)

  positive : 1 ≤ r.u
  positive = omega (arith, c.timely.positive, r.low)

  message_is : r.made.bytes ≡ proposal_bytes (proposed launch.s)
  unfolding propose_body
  message_is =
      let e : made_in (did c.pit r.made.spot) ≡ Some (proposal_bytes (proposed launch.s)) = ap made_in launch.outcome in
      let f : Some r.made.bytes ≡ Some (proposal_bytes (proposed launch.s)) = sym r.made.message ∙ e in
      cc

  the_message : Made c.pit r.made.spot (2 * r.u) r.made.bytes
  unfolding propose_body
  the_message = record { message = r.made.message; at_tick = ap tick_in launch.outcome ∙ launch_tick }

  sealing : sealed_in (did c.pit r.made.spot) ≡ Some (proposes (key_of c r))
  unfolding propose_body
  sealing = ap sealed_in launch.outcome

  readable : read c.pit.n r.made.bytes ≡ Ok (message.Proposal (proposed launch.s))
  readable =
      let p = r.made.spot in
      ap (read c.pit.n) message_is
      ∙ c.reads.proposals p launch.s r.made.owed r.made.orders r.made.space r.made.body
      (subst (λ (j : ℕ). state_at c.pit j p.earlier ≡ Some launch.s) (sym r.made.at_leader) launch.at.is) r.made.call r.made.shows

  -- all accept the leader's seal and its certificate
  seal_accepted : (i : ℕ) → Sound c.pit i → c.pit.table i leads (proposes (key_of c r)) r.made.spot.line.seal ≡ true
  seal_accepted i sound =
      let a = c.good.sealing r.made.spot (proposes (key_of c r)) sealing in
      let b = subst (λ (j : ℕ). c.pit.table j j (proposes (key_of c r)) r.made.spot.line.seal ≡ true) r.made.at_leader (T_is _ a) in
      c.timely.alike i leads sound r.lead leads (proposes (key_of c r)) r.made.spot.line.seal ∙ b

  certificate_accepted : (i : ℕ) → Sound c.pit i → certificate_stands (c.pit.table i) c.pit.n launch.s.ledger.top ≡ true
  certificate_accepted i sound =
      let l = live c leads r.made.spot.earlier launch.s launch.at in
      stands_alike (c.pit.table i) (c.pit.table leads) (c.timely.alike i leads sound r.lead) c.pit.n launch.s.ledger.top
      ∙ subst (λ (n : ℕ). certificate_stands (c.pit.table leads) n launch.s.ledger.top ≡ true) l.size l.ledger.stands

  -- ---- only this block

  -- a key of view u that its leader sealed is this block's
  pub only_this : (m : Sheet) → Now c m → (k : Key) → k.view ≡ r.u → Led c.pit m k → k ≡ key_of c r
  only_this m n k e led =
      let same : leader c.pit.n k.view ≡ leads = ap (leader c.pit.n) e in
      let s = led (subst (Sound c.pit) (sym same) r.lead) in
      let t : Sealed c.pit c.st.run leads (proposes k) =
      subst (λ (x : Sheet). Sealed c.pit x leads (proposes k)) (sym n.here)
      (sealed_on c.pit n.later m leads (proposes k) (subst (λ (j : ℕ). Sealed c.pit m j (proposes k)) same s)) in
      one_proposal c.pit c.st.run c.good leads k (key_of c r) (e ∙ sym body_view) t (r.made.spot, r.made.at_leader, sealing)

  -- a block held under its key has its body
  pub its_body : (i : ℕ) (m : Sheet) (s : State) → At c i m s → (b : Block) → On b s.ledger.shelf → block_key b ≡ key_of c r → b.body ≡ r.made.body
  its_body i m s a b on e =
      let g = (ledger_sound c i m s a).shelf b on in
      c.good.digests b.body r.made.body (shown_sheet c.pit c.st.run b.body g.shown) (r.made.spot, r.made.shows)
      (sym g.named ∙ ap (λ (k : Key). k.name) e)

  -- in view u heads are below u
  pub head_below : (i : ℕ) (m : Sheet) (s : State) → At c i m s → s.view ≤ r.u → s.ledger.head.view < r.u
  head_below i m s a l = ⊎_elim (λ h. omega (arith, h, l)) (λ h. omega (arith, h, positive)) (live c i m s a).ledger.head_below

  -- ---- all hold it

  -- console i holds the block, at tick 2u
  pub record Held (i : ℕ) : Type 0 where
    pub m : Sheet
    pub s : State
    pub at : At c i m s
    pub tick : s.tick ≡ 2 * r.u
    pub holding : Holding (key_of c r) s.ledger
    -- after it was proposed
    pub proposed_before : length r.made.spot.earlier < length m

  view_at : (i : ℕ) (m : Sheet) (s : State) → At c i m s → 2 * r.u ≤ s.tick → s.tick < 2 * r.u + 2 → s.view ≡ r.u
  view_at i m s a l h = omega (arith, (live c i m s a).clock, l, h)

  leader_holds : Held (leader c.pit.n r.u)
  leader_holds =
      let p = r.made.spot in
      let d = done_open c.pit leads p.line p.earlier launch.s r.made.at_leader launch.at.is in
      let o = propose_body r.made.body p.line.seal launch.s in
      let e : stepped c.pit leads p.line launch.s ≡ o = same_some _ o (sym d ∙ launch.outcome) in
      let n = state_next c.pit leads p.line p.earlier launch.s r.made.at_leader launch.at.is in
      let a : At c leads (p.line ∷ p.earlier) o.state =
      record { sound = r.lead; now = after_spot c p r.made.inside; is = n ∙ ap (λ (x : Outcome). Some x.state) e } in
      let t : o.state.tick ≡ 2 * r.u = proposed_tick launch.s r.made.body p.line.seal ∙ launch_tick in
      record {
        m = p.line ∷ p.earlier;
        s = o.state;
        at = a;
        tick = t;
        proposed_before = omega arith;
        holding = proposed_holds launch.s r.made.body p.line.seal
            (subst (λ (b : Body). fits_shelf launch.s (body_key b) ≡ true) launch.body launch.stands.room)
            (omega (
              arith,
              body_view,
              head_below leads (p.line ∷ p.earlier) o.state a
                  (omega (arith, view_at leads (p.line ∷ p.earlier) o.state a (omega (arith, t)) (omega (arith, t)))),
            ));
      }

  other_holds : (i : ℕ) → Sound c.pit i → (i ≡ leader c.pit.n r.u → ⊥) → Held i
  other_holds i sound apart =
      let q = r.made.spot in
      let z = c.timely.in_time q (2 * r.u) r.made.bytes r.made.inside the_message i sound (λ e. apart (e ∙ r.made.at_leader)) in
      let h = z.0 in
      let inside : Inside c.st h = omega (arith, z.1, r.made.inside) in
      let f = c.timely.tick_first q h (2 * r.u) r.made.bytes r.made.inside z.1 the_message z.3 i sound in
      let t = tick_line c i sound (2 * r.u + 1) (omega (arith, r.low)) (omega (arith, r.high)) in
      let before = z.4 t.0 t.1.inside t.1.call in
      let o = open_at c i sound h.earlier (before_spot c h inside) in
      let s = o.0 in
      let low = tick_above c i (2 * r.u) f.0 (record { inside = f.1; console = f.3; call = f.4 }) h.earlier s o.1 f.2 in
      let high = tick_below c i (2 * r.u + 1) t.0 t.1 h.earlier s o.1 (omega (arith, before)) in
      let l = live c i h.earlier s o.1 in
      let view = view_at i h.earlier s o.1 low (omega (arith, high)) in
      let e : stepped c.pit i h.line s ≡ hear (c.pit.table i) s r.made.bytes = ap (step (c.pit.table i) h.line.seal s) z.3 in
      let d = done_open c.pit i h.line h.earlier s z.2 o.1.is in
      let w = (hear (c.pit.table i) s r.made.bytes).state in
      let a : At c i (h.line ∷ h.earlier) w = record {
        sound = sound;
        now = after_spot c h inside;
        is = state_next c.pit i h.line h.earlier s z.2 o.1.is ∙ ap (λ (x : Outcome). Some x.state) e;
      } in
      let g = grown c i h.earlier (h.line ∷ h.earlier) s w o.1 a (omega arith) in
      let high' = tick_below c i (2 * r.u + 1) t.0 t.1 (h.line ∷ h.earlier) w a before in
      let view' = view_at i (h.line ∷ h.earlier) w a (omega (arith, low, g.tick)) (omega (arith, high')) in
      record {
        m = h.line ∷ h.earlier;
        s = w;
        at = a;
        tick = omega (arith, low, g.tick, high');
        proposed_before = omega (arith, z.1);
        holding = heard_holds (c.pit.table i) s r.made.bytes (proposed launch.s) (fits_at c i h.earlier s o.1)
            (subst (λ (n : ℕ). read n r.made.bytes ≡ Ok (message.Proposal (proposed launch.s))) (sym l.size) readable)
            (omega (arith, body_view, view))
            (omega (arith, body_view, head_below i h.earlier s o.1 (omega (arith, view))))
            (subst (λ (n : ℕ). c.pit.table i (leader n r.made.body.view) (proposes (key_of c r)) q.line.seal ≡ true) (sym l.size)
            (subst (λ (y : ℕ). c.pit.table i (leader c.pit.n y) (proposes (key_of c r)) q.line.seal ≡ true) (sym body_view) (seal_accepted i sound)))
            (subst (λ (n : ℕ). certificate_stands (c.pit.table i) n launch.s.ledger.top ≡ true) (sym l.size) (certificate_accepted i sound))
            (λ y. r.room h inside z.3 (ap answer_in d ∙ ap (λ (x : Outcome). Some x.answer) e ∙ ap (λ (x : Answer). Some x) y))
            (omega (arith, body_view, head_below i (h.line ∷ h.earlier) w a (omega (arith, view'))));
      }

  pub all_hold : (i : ℕ) → Sound c.pit i → Held i
  all_hold i sound = ⊎_elim (λ e. subst Held (sym e) leader_holds) (other_holds i sound) (cases_eq i leads)

  -- from then on, until the head comes to view u
  pub holds_on : (i : ℕ) (m : Sheet) (s : State) → At c i m s → (h : Held i) → length h.m ≤ length m → s.ledger.head.view < r.u
      → (b : Block) × (held (key_of c r) s.ledger.shelf ≡ Some b)
  holds_on i m s a h l below =
      let g = grown c i h.m m h.s s h.at a l in
      let x = g.ledger.held_on (key_of c r) h.holding.0 h.holding.1 (omega (arith, below, body_view)) in
      (x.0, x.1)

  -- ---- all vote for it

  -- console i voted for it at its tick 2u + 1
  pub record Voted (i : ℕ) : Type 0 where
    pub p : Spot c.st.run
    pub line : Ticks c i (2 * r.u + 1) p
    pub s : State
    pub at : At c i p.earlier s
    pub b : Block
    pub its_key : block_key b ≡ key_of c r
    pub its_body_is : b.body ≡ r.made.body
    pub choice : candidate_block (clocked s (2 * r.u + 1)) ≡ Some b
    pub outcome : did c.pit p ≡ Some (vote_for b p.line.seal (clocked s (2 * r.u + 1)))
    pub after : At c i (p.line ∷ p.earlier) (vote_for b p.line.seal (clocked s (2 * r.u + 1))).state

  odd : (2 * r.u + 1) % 2 ≡ 1
  odd = omega arith

  half : view_of (2 * r.u + 1) ≡ r.u
  half = omega arith

  pub all_vote : Free c r → (i : ℕ) → Sound c.pit i → Voted i
  all_vote free i sound =
      let h = all_hold i sound in
      let t = tick_line c i sound (2 * r.u + 1) (omega (arith, r.low)) (omega (arith, r.high)) in
      let p = t.0 in
      let o = open_at c i sound p.earlier (before_spot c p t.1.inside) in
      let s = o.0 in
      let l = live c i p.earlier s o.1 in
      let later : length h.m ≤ length p.earlier = ⊎_elim
      (λ early. absurd (omega (arith, h.tick, tick_above c i (2 * r.u + 1) p t.1 h.m h.s h.at early)))
      (λ late. late) (cases_lt (length p.earlier) (length h.m)) in
      let g = grown c i h.m p.earlier h.s s h.at o.1 later in
      let high = tick_below c i (2 * r.u + 1) p t.1 p.earlier s o.1 (omega arith) in
      let view : s.view ≡ r.u = view_at i p.earlier s o.1 (omega (arith, g.tick, h.tick)) (omega (arith, high)) in
      let x = holds_on i p.earlier s o.1 h later (head_below i p.earlier s o.1 (omega (arith, view))) in
      let b = x.0 in
      let w = held_on (key_of c r) s.ledger.shelf b x.1 in
      let body = its_body i p.earlier s o.1 b w.0 w.1 in
      let chosen = l.chosen b w.0 (ap (λ (k : Key). k.view) w.1 ∙ body_view ∙ sym view) in
      let name = chosen.0 in
      let this = only_this p.earlier o.1.now (record { view = s.view; name = name }) view (l.candidate_led name chosen.1) in
      let same : eqb (view_of (2 * r.u + 1)) s.view ≡ true = eq-eqb _ _ (half ∙ sym view) in
      let still : (clocked s (2 * r.u + 1)).candidate ≡ Some name = cond-true (eqb (view_of (2 * r.u + 1)) s.view) s.candidate None same ∙ chosen.1 in
      let key : record { view = view_of (2 * r.u + 1); name = name } ≡ key_of c r =
      ap (λ (y : ℕ). record { view = y; name = name }) (half ∙ sym view) ∙ this in
      let choice : candidate_block (clocked s (2 * r.u + 1)) ≡ Some b =
      ap (λ (q : Option (List ℕ)). elim q [ None ↦ None | Some y ↦ held (record { view = view_of (2 * r.u + 1); name = y }) s.ledger.shelf ]) still
      ∙ ap (λ (k : Key). held k s.ledger.shelf) key ∙ x.1 in
      let f = free i p t.1 s o.1 in
      let may : may_vote s.marks (view_of (2 * r.u + 1)) b.body.parent.view ≡ true =
      and_from (ltb s.marks.voted (view_of (2 * r.u + 1))) (leb s.marks.lock b.body.parent.view)
      (lt-ltb _ _ (omega (arith, f.0, half))) (le-leb _ _ (omega (arith, f.1, ap (λ (y : Body). y.parent.view) body))) in
      let n = not_refused c i (2 * r.u + 1) p t.1 s o.1.is in
      let d = done_open c.pit i p.line p.earlier s t.1.console o.1.is in
      let v = n.0 ∙ votes_now p.line.seal s (2 * r.u + 1) b n.1 odd choice may in
      record {
        p = p;
        line = t.1;
        s = s;
        at = o.1;
        b = b;
        its_key = w.1;
        its_body_is = body;
        choice = choice;
        outcome = d ∙ ap (λ (q : Outcome). Some q) v;
        after = record {
          sound = sound;
          now = after_spot c p t.1.inside;
          is = state_next c.pit i p.line p.earlier s t.1.console o.1.is ∙ ap (λ (q : Outcome). Some q.state) v;
        };
      }

  -- ---- all count all votes

  -- console i has console j's vote, at tick 2u + 1
  pub record Counted (i j : ℕ) : Type 0 where
    pub m : Sheet
    pub s : State
    pub at : At c i m s
    pub tick : s.tick ≡ 2 * r.u + 1
    pub counting : Counting (key_of c r) j s.ledger

  -- the state in which console j voted
  abbrev voter : (j : ℕ) → Voted j → State
  voter j v = clocked v.s (2 * r.u + 1)

  -- and the ledger that its own vote left
  abbrev own_ledger : (j : ℕ) → Voted j → Ledger
  own_ledger j v =
      (settle v.s.seat.n (enter v.s.seat.n (block_key v.b) v.s.seat.own v.p.line.seal v.s.ledger)).ledger

  own_counts : (i : ℕ) → Voted i → Counted i i
  own_counts i v =
      let w = voted_state v.b v.p.line.seal (voter i v) in
      let s' = (vote_for v.b v.p.line.seal (voter i v)).state in
      let l = live c i v.p.earlier v.s v.at in
      let below = head_below i (v.p.line ∷ v.p.earlier) s' v.after (omega (arith, w.1, half)) in
      let held_b = candidate_held (voter i v) v.b v.choice in
      let x = entered_counts v.s.seat.n (block_key v.b) v.s.seat.own v.p.line.seal v.s.ledger v.b held_b refl
      (subst (λ (g : Ledger). g.head.view < (block_key v.b).view) w.2 (omega (arith, below, ap (λ (k : Key). k.view) v.its_key, body_view))) in
      record {
        m = v.p.line ∷ v.p.earlier;
        s = s';
        at = v.after;
        tick = w.0;
        counting = subst (λ (g : Ledger). Counting (key_of c r) i g) (sym w.2)
            (subst (λ (j : ℕ). Counting (key_of c r) j (own_ledger i v)) l.own
            (subst (λ (k : Key). Counting k v.s.seat.own (own_ledger i v)) v.its_key x));
      }

  -- the vote that console j made, and where
  abbrev cast : (j : ℕ) → Voted j → Vote
  cast j v = vote_made v.b v.p.line.seal (voter j v)

  cast_made : (j : ℕ) (v : Voted j) → Made c.pit v.p (2 * r.u + 1) (vote_bytes (cast j v))
  cast_made j v = record {
    message = ap made_in v.outcome ∙ ap (λ (a : Answer). made_message a (vote_for v.b v.p.line.seal (voter j v)).written)
        (voted_outcome v.b v.p.line.seal (voter j v)).0;
    at_tick = ap tick_in v.outcome ∙ (voted_state v.b v.p.line.seal (voter j v)).0;
  }

  cast_reads : (j : ℕ) (v : Voted j) → read c.pit.n (vote_bytes (cast j v)) ≡ Ok (message.Vote (cast j v))
  cast_reads j v =
      c.reads.votes v.p (cast j v)
      (ap answer_in v.outcome ∙ ap (λ (a : Answer). Some a) (voted_outcome v.b v.p.line.seal (voter j v)).0)

  -- all accept its seal
  cast_accepted : (i j : ℕ) → Sound c.pit i → (v : Voted j) → c.pit.table i v.s.seat.own (votes_for (block_key v.b)) v.p.line.seal ≡ true
  cast_accepted i j sound v =
      let st = votes_for (block_key v.b) in
      let own = (live c j v.p.earlier v.s v.at).own in
      let a = c.good.sealing v.p st (ap sealed_in v.outcome ∙ (voted_outcome v.b v.p.line.seal (voter j v)).1) in
      let b = subst (λ (x : ℕ). c.pit.table x x st v.p.line.seal ≡ true) v.line.console (T_is _ a) in
      subst (λ (x : ℕ). c.pit.table i x st v.p.line.seal ≡ true) (sym own)
      (c.timely.alike i j sound v.at.sound j st v.p.line.seal ∙ b)

  other_counts : (i j : ℕ) → Sound c.pit i → (i ≡ j → ⊥) → Voted j → Counted i j
  other_counts i j sound apart v =
      let z = c.timely.in_time v.p (2 * r.u + 1) (vote_bytes (cast j v)) v.line.inside (cast_made j v) i sound (λ e. apart (e ∙ v.line.console)) in
      let h = z.0 in
      let inside : Inside c.st h = omega (arith, z.1, v.line.inside) in
      let f = c.timely.tick_first v.p h (2 * r.u + 1) (vote_bytes (cast j v)) v.line.inside z.1 (cast_made j v) z.3 i sound in
      let o = open_at c i sound h.earlier (before_spot c h inside) in
      let s = o.0 in
      let low = tick_above c i (2 * r.u + 1) f.0 (record { inside = f.1; console = f.3; call = f.4 }) h.earlier s o.1 f.2 in
      let high = tick_under c i (2 * r.u + 1 + 1) h.earlier s o.1 (omega (arith, r.low)) (omega (arith, r.high)) (λ q k e. omega (arith, z.4 q k e)) in
      let l = live c i h.earlier s o.1 in
      let view = view_at i h.earlier s o.1 (omega (arith, low)) (omega (arith, high)) in
      let k = all_hold i sound in
      let later : length k.m ≤ length h.earlier = ⊎_elim
      (λ early. absurd (omega (arith, k.tick, low, (grown c i h.earlier k.m s k.s o.1 k.at (omega (arith, early))).tick)))
      (λ late. late) (cases_lt (length h.earlier) (length k.m)) in
      let x = holds_on i h.earlier s o.1 k later (head_below i h.earlier s o.1 (omega (arith, view))) in
      let named = held_on (key_of c r) s.ledger.shelf x.0 x.1 in
      let e : stepped c.pit i h.line s ≡ hear (c.pit.table i) s (vote_bytes (cast j v)) = ap (step (c.pit.table i) h.line.seal s) z.3 in
      let w = (hear (c.pit.table i) s (vote_bytes (cast j v))).state in
      let a : At c i (h.line ∷ h.earlier) w = record {
        sound = sound;
        now = after_spot c h inside;
        is = state_next c.pit i h.line h.earlier s z.2 o.1.is ∙ ap (λ (q : Outcome). Some q.state) e;
      } in
      let g = grown c i h.earlier (h.line ∷ h.earlier) s w o.1 a (omega arith) in
      let high' = tick_under c i (2 * r.u + 1 + 1) (h.line ∷ h.earlier) w a (omega (arith, r.low)) (omega (arith, r.high)) (λ q y n. z.4 q y n) in
      let view' = view_at i (h.line ∷ h.earlier) w a (omega (arith, low, g.tick)) (omega (arith, high')) in
      let below = head_below i (h.line ∷ h.earlier) w a (omega (arith, view')) in
      let counts = heard_counts (c.pit.table i) s (vote_bytes (cast j v)) (cast j v) x.0 (fits_at c i h.earlier s o.1)
      (subst (λ (n : ℕ). read n (vote_bytes (cast j v)) ≡ Ok (message.Vote (cast j v))) (sym l.size) (cast_reads j v))
      (subst (λ (q : Key). held q s.ledger.shelf ≡ Some x.0) (sym v.its_key) x.1) (named.1 ∙ sym v.its_key)
      (cast_accepted i j sound v) (omega (arith, below, ap (λ (q : Key). q.view) v.its_key, body_view)) in
      record {
        m = h.line ∷ h.earlier;
        s = w;
        at = a;
        tick = omega (arith, low, g.tick, high');
        counting = subst (λ (q : ℕ). Counting (key_of c r) q w.ledger) (live c j v.p.earlier v.s v.at).own
            (subst (λ (q : Key). Counting q v.s.seat.own w.ledger) v.its_key counts);
      }

  pub all_count : Free c r → (i j : ℕ) → Sound c.pit i → Sound c.pit j → Counted i j
  all_count free i j si sj =
      ⊎_elim
      (λ e. subst (Counted i) e (own_counts i (all_vote free i si)))
      (λ n. other_counts i j si n (all_vote free j sj))
      (cases_eq i j)

  -- ---- a quorum

  -- a moment of console i that comes after every moment of tick 2u + 1
  abbrev pub Later : ℕ → Sheet → Type 0
  Later i m = (m' : Sheet) (s' : State) → At c i m' s' → s'.tick ≡ 2 * r.u + 1 → length m' ≤ length m

  -- the block is held, with a quorum of votes
  pub record Full (s : State) : Type 0 where
    pub b : Block
    pub holds : held (key_of c r) s.ledger.shelf ≡ Some b
    pub quorum : is_quorum c.pit.n b.tally.set ≡ true

  pub all_full : Free c r → (i : ℕ) (m : Sheet) (s : State) → At c i m s → Later i m → s.ledger.head.view < r.u → Full s
  all_full free i m s a later below =
      let own = kept i a.sound in
      let g = held_on (key_of c r) s.ledger.shelf own.0 own.1 in
      record {
        b = own.0;
        holds = own.1;
        quorum = T_is _ (counted.suffice c.pit.n c.pit.sound c.good.the_pit.few_faulty own.0.tally.set
            ((ledger_sound c i m s a).shelf own.0 g.0).within
            (λ j l t. let x = kept j (l, t) in
            subst (λ (y : Block). Holds y.tally.set j) (same_some x.0 own.0 (sym x.1 ∙ own.1)) x.2));
      }
    where
      kept : (j : ℕ) → Sound c.pit j → Counting (key_of c r) j s.ledger
      kept j sound =
          let k = all_count free i j a.sound sound in
          let g = grown c i k.m m k.s s k.at a (later k.m k.s k.at k.tick) in
          let x = g.ledger.held_on (key_of c r) k.counting.0 k.counting.1 (omega (arith, below, body_view)) in
          (x.0, x.1, x.2.votes j k.counting.2)
