-- Both views of a timely stretch together: the second block is built on the first, and settling then finds the first.
use Rattle.std.proofs.Common.{◌≡◌, ℕ, suc, ◌+◌, ◌*◌, ◌<◌, ◌≤◌, true, ◌⊎◌, List, [], ◌∷◌, ◌++◌, length, Some, sym, ap, ◌∙◌, subst, inl, inr, ⊎_elim, arith, length-append}
use mathlib.Core.List.{Memᴰ}
use Rattle.std.proofs.lemmas.List.{append_assoc}
use Rattle.std.proofs.lemmas.Bool.{cases_lt, or_left}
use Rattle.votes.specs.Quorum.{is_quorum}
use Rattle.votes.specs.Votes.{Certified, Among, Lawful, Chain, Ancestor, History}
use Rattle.votes.proofs.Agree.{one_per_view}
use Rattle.wire.specs.Format.{body_key, origin}
use Rattle.wire.specs.declared.body.Body.{Body}
use Rattle.wire.specs.declared.key.Key.{Key}
use Rattle.rules.specs.declared.block.Block.{Block}
use Rattle.rules.specs.Blocks.{On, held}
use Rattle.rules.specs.Call.{ticking}
use Rattle.rules.specs.Pit.{leader, view_of}
use Rattle.rules.specs.Settle.{settle, reaches}
use Rattle.rules.specs.State.{State, Ledger}
use Rattle.rules.specs.Step.{Owed, Outcome}
use Rattle.rules.specs.Tick.{clocked}
use Rattle.sheets.specs.Sheet.{Sound, Sheet, Spot, did, handed_in, chain}
use Rattle.sheets.specs.Sound.{SoundSheet}
use Rattle.sheets.specs.Timely.{Inside, HandsOver, HoldsUpTo}
use Rattle.safety.proofs.Agreement.{lawful}
use Rattle.safety.proofs.Histories.{blocks, consoles, history, shown_sheet, chain_own, sound_earlier}
use Rattle.safety.proofs.Ledgers.{tally_certified, backed_certified}
use Rattle.rules.specs.Shelves.{held_on}
use Rattle.liveness.proofs.Effects.{voted_state}
use Rattle.liveness.proofs.Growth.{Grows, LedgerGrows, Ends, step_on}
use Rattle.liveness.proofs.Induct.{stepped, done_open, state_next}
use Rattle.liveness.proofs.Reach.{Lined, head_ancestor, reaches_new, last_link, chain_last}
use Rattle.liveness.specs.Liveness.{StretchesHandOver}
use Rattle.liveness.proofs.Readables.{readable}
use Rattle.liveness.proofs.Rounds.{Later, Round, key_of, Free, launch, launch_tick, body_view, parent_is_top, its_body, head_below, Held, all_hold, holds_on, all_vote, Full, all_full}
use Rattle.liveness.proofs.Run.{T_is}
use Rattle.liveness.proofs.Settling.{Ripe, ripe_moves, settled_hands, settled_on, settled_head, member_last}
use Rattle.liveness.proofs.Stretches.{Now, Case, At, before_spot, after_spot, the_start, the_end, open_at, live, ledger_sound, grown, across, not_opening, Ticks, tick_line, tick_below, tick_above, tick_capped, quiet, taken_at}

module _ (c : Case) where
  abbrev pub first : Round c
  first = record {
    u = c.v;
    low = omega arith;
    high = omega arith;
    lead = c.timely.leader_sound;
    made = c.timely.first;
    room = λ p l e. c.timely.room p l (inl e);
  }

  abbrev pub second : Round c
  second = record {
    u = c.v + 1;
    low = omega arith;
    high = omega arith;
    lead = c.timely.next_leader_sound;
    made = c.timely.second;
    room = λ p l e. c.timely.room p l (inr e);
  }

  -- the first block, the key of the second, and the votes and bodies at the end of the stretch
  abbrev body : Body
  body = c.timely.first.body

  abbrev key : Key
  key = key_of c first

  abbrev H : History blocks
  H = history c.pit c.st.run

  abbrev Sure : Key → Type 0
  Sure = Certified blocks (consoles c.pit) H

  law : Lawful blocks (consoles c.pit) H
  law = lawful c.pit c.st.run c.good

  own_turn : c.timely.first.owed.view ≡ c.v
  own_turn = ap (λ (x : Owed). x.view) c.timely.first.its_turn

  parent_below : body.parent.view < body.view
  parent_below = omega (arith, ap (λ (k : Key). k.view) (parent_is_top c first), (launch c first).stands.above_top, own_turn, body_view c first)

  -- ---- all may vote for the first block

  -- console i when the first block was proposed
  record Then (i : ℕ) : Type 0 where
    pub s : State
    pub at : At c i c.timely.first.spot.earlier s
    pub lock : s.marks.lock ≤ body.parent.view
    pub lined : HoldsUpTo s body.parent

  then : (i : ℕ) → Sound c.pit i → Then i
  then i sound =
      let l = launch c first in
      let top = c.timely.top_reached l.s l.at.is i sound in
      let e = sym (parent_is_top c first) in
      record {
        s = top.0;
        at = record { sound = sound; now = before_spot c c.timely.first.spot c.timely.first.inside; is = top.1 };
        lock = subst (λ (k : Key). top.0.marks.lock ≤ k.view) e top.2.0;
        lined = subst (HoldsUpTo top.0) e top.2.1;
      }

  first_free : Free c first
  first_free i p t s a =
      let z = c.timely.all_ready i a.sound in
      let start : At c i c.st.before z.0 = record { sound = a.sound; now = the_start c; is = z.1 } in
      let n = then i a.sound in
      let h = all_hold c first i a.sound in
      let g = grown c i c.timely.first.spot.earlier h.m n.s h.s n.at h.at (omega (arith, h.proposed_before)) in
      let now = quiet c i c.v c.st.before p.earlier z.0 s start a a.now.inside ticks
      (tick_below c i (2 * c.v + 1) p t p.earlier s a (omega arith)) in
      let old = quiet c i c.v c.st.before c.timely.first.spot.earlier z.0 n.s start n.at n.at.now.inside ticks
      (omega (arith, g.tick, h.tick)) in
      (omega (arith, now.0, z.2.1), omega (arith, now.1, old.1, n.lock))
    where
      ticks : (q : Spot c.st.run) → Inside c.st q → length c.st.before ≤ length q.earlier → q.line.console ≡ i
          → (x : ℕ) → q.line.call ≡ ticking x → 2 * c.v ≤ x
      ticks q l _ _ x e = (c.timely.no_other_tick q l x e).0

  -- ---- the first block is certified when view v + 1 begins

  -- before its tick 2v + 2 each console holds it with a quorum
  record AtTurn (i : ℕ) : Type 0 where
    pub p : Spot c.st.run
    pub line : Ticks c i (2 * c.v + 2) p
    pub s : State
    pub at : At c i p.earlier s
    pub full : Full c first s

  at_turn : (i : ℕ) → Sound c.pit i → AtTurn i
  at_turn i sound =
      let t = tick_line c i sound (2 * c.v + 2) (omega arith) (omega arith) in
      let p = t.0 in
      let o = open_at c i sound p.earlier (before_spot c p t.1.inside) in
      let l = live c i p.earlier o.0 o.1 in
      let high = tick_below c i (2 * c.v + 2) p t.1 p.earlier o.0 o.1 (omega arith) in
      let later : Later c first i p.earlier = λ m s a e. ⊎_elim
      (λ early. absurd (omega (arith, e, tick_above c i (2 * c.v + 2) p t.1 m s a early))) (λ late. late)
      (cases_lt (length p.earlier) (length m)) in
      record {
        p = p;
        line = t.1;
        s = o.0;
        at = o.1;
        full = all_full c first first_free i p.earlier o.0 o.1 later
            (head_below c first i p.earlier o.0 o.1 (omega (arith, l.clock, high)));
      }

  abbrev next_leader : ℕ
  next_leader = leader c.pit.n (c.v + 1)

  first_certified : Sure key
  first_certified =
      let t = at_turn next_leader c.timely.next_leader_sound in
      let f = t.full in
      let w = held_on key t.s.ledger.shelf f.b f.holds in
      subst Sure w.1 (tally_certified c.pit H f.b ((ledger_sound c next_leader t.p.earlier t.s t.at).shelf f.b w.0) f.quorum)

  -- a certified key of view v is the first block's
  only_first : (k : Key) → Sure k → k.view ≡ c.v → k ≡ key
  only_first k s e = one_per_view blocks (consoles c.pit) H law k key s first_certified (e ∙ sym (body_view c first))

  -- the second block is built on it
  built_on : c.timely.second.body.parent ≡ key
  built_on =
      let t = at_turn next_leader c.timely.next_leader_sound in
      let f = t.full in
      let w = held_on key t.s.ledger.shelf f.b f.holds in
      let y = launch c second in
      let q = c.timely.second.spot.earlier in
      let l = live c next_leader t.p.earlier t.s t.at in
      let covers = l.ledger.counted f.b w.0 (subst (λ (n : ℕ). is_quorum n f.b.tally.set ≡ true) (sym l.size) f.quorum) in
      let at_view : f.b.body.view ≡ c.v = ap (λ (k : Key). k.view) w.1 ∙ body_view c first in
      let later : length t.p.earlier ≤ length c.timely.second.spot.earlier = ⊎_elim
      (λ early. absurd (omega (arith, launch_tick c second, tick_below c next_leader (2 * c.v + 2) t.p t.line q y.s y.at (omega (arith, early)))))
      (λ late. late) (cases_lt (length c.timely.second.spot.earlier) (length t.p.earlier)) in
      let g = grown c next_leader t.p.earlier q t.s y.s t.at y.at later in
      let turn : c.timely.second.owed.view ≡ c.v + 1 = ap (λ (x : Owed). x.view) c.timely.second.its_turn in
      let top : y.s.ledger.top.block.view ≡ c.v = omega (arith, covers, at_view, g.ledger.top, y.stands.above_top, turn) in
      let sure = backed_certified c.pit H y.s.ledger.top.block (omega (arith, top, c.timely.positive))
      (ledger_sound c next_leader q y.s y.at).top in
      parent_is_top c second ∙ only_first y.s.ledger.top.block sure top

  -- ---- all may vote for the second block

  second_free : Free c second
  second_free i p t s a =
      let v = all_vote c first first_free i a.sound in
      let w = voted_state v.b v.p.line.seal (clocked v.s (2 * c.v + 1)) in
      let m = v.p.line ∷ v.p.earlier in
      let later : length m ≤ length p.earlier = ⊎_elim
      (λ early. absurd (omega (arith, w.0, tick_above c i (2 * (c.v + 1) + 1) p t m _ v.after early)))
      (λ late. late) (cases_lt (length p.earlier) (length m)) in
      let q = quiet c i (c.v + 1) m p.earlier _ s v.after a later
      (λ q l k e x call.
      let o = open_at c i a.sound q.earlier (before_spot c q l) in
      let taken = taken_at c i x q (record { inside = l; console = e; call = call }) o.0 o.1.is in
      omega (arith, taken.0.later, (grown c i m q.earlier _ o.0 v.after o.1 k).tick, w.0))
      (tick_below c i (2 * (c.v + 1) + 1) p t p.earlier s a (omega arith)) in
      let on : c.timely.second.body.parent.view ≡ c.v = ap (λ (k : Key). k.view) built_on ∙ body_view c first in
      let half : view_of (2 * c.v + 1) ≡ c.v = omega arith in
      let lock = ap (λ (x : Body). x.parent.view) v.its_body_is in
      (omega (arith, q.0, w.3, half), omega (arith, q.1, w.4, lock, parent_below, body_view c first, on))

  -- ---- the first block reaches each head

  -- a body with the first block's key is its body
  first_body : (x : Body) → Among x H.shown → body_key x ≡ key → x ≡ body
  first_body x shown e =
      c.good.digests x body (shown_sheet c.pit c.st.run x shown) (c.timely.first.spot, c.timely.first.shows) (ap (λ (k : Key). k.name) e)

  -- a head below view v is an ancestor of the first block's parent
  parent_ancestor : (i : ℕ) (m : Sheet) (w : State) → At c i m w → w.ledger.head.view < c.v → Ancestor blocks H w.ledger.head body.parent
  parent_ancestor i m w a l =
      let s = (ledger_sound c i m w a).settled in
      let b = body_view c first in
      let n = head_ancestor blocks H (consoles c.pit) law w.ledger.head key s.final first_certified (omega (arith, l, b)) in
      ⊎_elim
      (λ e. absurd (omega (arith, l, b, ap (λ (k : Key). k.view) e)))
      (λ x. subst (λ (y : Body). Ancestor blocks H w.ledger.head y.parent) (first_body x.0 x.1 x.2) x.3)
      (last_link blocks H n.0 w.ledger.head key n.1)

  -- The line from the first block reaches a head below view v, on every ledger that grew from the console's with that head.
  reach_at : (i : ℕ) (m : Sheet) (w : State) → At c i m w → length c.timely.first.spot.earlier ≤ length m
      → (g : Ledger) → LedgerGrows w.ledger g → g.head ≡ w.ledger.head → w.ledger.head.view < c.v
      → (b : Block) → b.body ≡ body → reaches g.shelf g.head b ≡ true
  reach_at i m w a later g grows same low b is = ⊎_elim (λ e. reaching 0 (inl e))
      (λ x. reaching (suc x.0.body.view) (inr (x.0, x.1, T_is _ x.2))) (then i a.sound).lined
    where
      old : Then i
      old = then i a.sound

      grew : Grows (then i a.sound).s w
      grew = grown c i c.timely.first.spot.earlier m old.s w old.at a later

      same_view : g.head.view ≡ w.ledger.head.view
      same_view = ap (λ (k : Key). k.view) same

      up : Ancestor blocks H g.head b.body.parent
      up =
          subst (λ (y : Body). Ancestor blocks H g.head y.parent) (sym is)
          (subst (λ (k : Key). Ancestor blocks H k body.parent) (sym same) (parent_ancestor i m w a low))

      reaching : (n : ℕ) → Lined old.s.ledger.shelf old.s.ledger.head n body.parent → reaches g.shelf g.head b ≡ true
      reaching n line =
          reaches_new c.pit H law old.s.ledger.shelf (ledger_sound c i c.timely.first.spot.earlier old.s old.at).shelf
          old.s.ledger.head g.shelf g.head (omega (arith, grew.ledger.head, same_view))
          (λ k d h l.
          let x = grew.ledger.held_on k d h (omega (arith, l, same_view)) in
          let y = grows.held_on k x.0 x.1 l in
          (y.0, y.1, y.2.body ∙ x.2.body))
          n b (subst (λ (y : Body). y.parent.view < y.view) (sym is) parent_below) up
          (subst (λ (y : Body). Lined old.s.ledger.shelf old.s.ledger.head n y.parent) (sym is) line)
          (suc b.body.view) (omega arith)

  -- ---- settling finds the first block

  -- where the second block has a quorum, the head has come to view v
  abbrev CaughtUp : State → Type 0
  CaughtUp s = (b : Block) → held (key_of c second) s.ledger.shelf ≡ Some b → is_quorum c.pit.n b.tally.set ≡ true → c.v ≤ s.ledger.head.view

  -- a line of the stretch at console i, in state w before it
  module _ (i : ℕ) (p : Spot c.st.run) (l : Inside c.st p) (own : p.line.console ≡ i) (w : State) (at_w : At c i p.earlier w) where
    abbrev o : Outcome
    o = stepped c.pit i p.line w

    after : At c i (p.line ∷ p.earlier) o.state
    after = record { sound = at_w.sound; now = after_spot c p l; is = state_next c.pit i p.line p.earlier w own at_w.is }

    ended : Ends w o
    ended = (step_on (c.pit.table i) p.line.seal w p.line.call (not_opening c p l)).ends

    module _ (h : Held c first i) (later : length h.m ≤ length p.earlier) where
      -- the first block is ripe where the second has a quorum and the head is still below it
      ripe : (g : Ledger) → o.state.ledger ≡ (settle w.seat.n g).ledger → LedgerGrows w.ledger g → g.head ≡ w.ledger.head
          → (b : Block) → held (key_of c second) o.state.ledger.shelf ≡ Some b → is_quorum c.pit.n b.tally.set ≡ true
          → w.ledger.head.view < c.v → (d : Block) × Ripe w.seat.n g d × (d.body.view ≡ c.v)
      ripe g e grows same b holds quorum low =
          let old = ap (λ (k : Key). k.view) same in
          let x = holds_on c first i p.earlier w at_w h later low in
          let y = grows.held_on key x.0 x.1 (omega (arith, low, old, body_view c first)) in
          let here = held_on key w.ledger.shelf x.0 x.1 in
          let there = held_on key g.shelf y.0 y.1 in
          let is = y.2.body ∙ its_body c first i p.earlier w at_w x.0 here.0 here.1 in
          let child = held_on (key_of c second) o.state.ledger.shelf b holds in
          let child_is = its_body c second i (p.line ∷ p.earlier) o.state after b child.0 child.1 in
          let view = ap (λ (z : Body). z.view) is ∙ body_view c first in
          let child_view = ap (λ (z : Body). z.view) child_is ∙ body_view c second in (
            y.0,
            record {
              on = there.0;
              above = omega (arith, low, old, view);
              child = b;
              confirmed = record {
                on = settled_on w.seat.n g b (subst (λ (z : Ledger). On b z.shelf) e child.0);
                upon = ap (λ (z : Body). z.parent) child_is ∙ built_on ∙ sym there.1;
                next = omega (arith, view, child_view);
                certain = or_left (is_quorum w.seat.n b.tally.set) _
                    (subst (λ (z : ℕ). is_quorum z b.tally.set ≡ true) (sym (live c i p.earlier w at_w).size) quorum);
              };
              reaching = reach_at i p.earlier w at_w (omega (arith, h.proposed_before, later)) g grows same low y.0 is;
            },
            view,
          )

      catches : CaughtUp w → Ends w o → CaughtUp o.state
      catches old (inl e) = λ b holds quorum.
          omega (arith, old b (ap (λ (g : Ledger). held (key_of c second) g.shelf) (sym e) ∙ holds) quorum, ap (λ (g : Ledger). g.head.view) e)
      catches old (inr x) = λ b holds quorum. ⊎_elim
          (λ early.
          let r = ripe x.0 x.1 x.3 x.4 b holds quorum early in
          omega (arith, ripe_moves w.seat.n x.0 r.0 r.1, r.2, ap (λ (g : Ledger). g.head.view) x.1))
          (λ late.
          omega (arith, late, settled_head w.seat.n x.0, ap (λ (k : Key). k.view) x.4, ap (λ (g : Ledger). g.head.view) x.1))
          (cases_lt w.ledger.head.view c.v)

  -- at the end every head has come to view v
  head_at_end : (i : ℕ) → Sound c.pit i → (s : State) → At c i c.st.run s → c.v ≤ s.ledger.head.view
  head_at_end i sound s a =
      let h = all_hold c first i sound in
      let l = live c i h.m h.s h.at in
      let start : CaughtUp h.s = λ b e q. absurd (
      let w = held_on (key_of c second) h.s.ledger.shelf b e in
      omega (arith, (l.ledger.blocks b w.0).reached, ap (λ (k : Key). k.view) w.1, body_view c second, l.clock, h.tick)) in
      let caught = across c i h.m h.at.now (λ x y. CaughtUp x → CaughtUp y) (λ x y. y)
      (λ p k f own x w hw q y.
      let a : At c i p.earlier w = record { sound = sound; now = before_spot c p k; is = hw } in
      catches i p k own w a h f (q y) (ended i p k own w a))
      c.st.run (the_end c) (before_end h.m h.at.now) h.s s h.at.is a.is start in
      let full = all_full c second second_free i c.st.run s a (λ m w b e. before_end m b.now)
      (head_below c second i c.st.run s a (omega (arith, (live c i c.st.run s a).clock, tick_capped c i c.st.run s a))) in
      caught full.b full.holds full.quorum
    where
      before_end : (m : Sheet) → Now c m → length m ≤ length c.st.run
      before_end m n = omega (arith, ap (λ (x : Sheet). length x) n.here, length-append n.later m)

  -- ---- it is handed over

  abbrev Over : ℕ → Type 0
  Over i = HandsOver c.pit c.st i body

  -- the line on which the head comes to view v hands it over
  module _ (i : ℕ) (p : Spot c.st.run) (l : Inside c.st p) (own : p.line.console ≡ i) (w : State) (at_w : At c i p.earlier w) where
    abbrev q : Outcome
    q = stepped c.pit i p.line w

    a : At c i (p.line ∷ p.earlier) q.state
    a = after i p l own w at_w

    -- a head of view v or above is the first block
    head_is : c.v ≤ q.state.ledger.head.view → q.state.ledger.head ≡ key
    head_is late =
        let lv = live c i (p.line ∷ p.earlier) q.state a in
        let view : q.state.ledger.head.view ≡ c.v = ⊎_elim
        (λ x. omega (arith, x, late, tick_capped c i (p.line ∷ p.earlier) q.state a, lv.clock))
        (λ x. absurd (omega (arith, x, late, c.timely.positive))) lv.ledger.head_below in
        let sure : Sure q.state.ledger.head = ⊎_elim
        (λ x. absurd (omega (arith, ap (λ (k : Key). k.view) x, view, c.timely.positive))) (λ x. x.certified)
        (ledger_sound c i (p.line ∷ p.earlier) q.state a).settled.final in
        only_first q.state.ledger.head sure view

    hands : c.v ≤ q.state.ledger.head.view → (zs : List Body) (b : Body) → q.handed ≡ zs ++ (b ∷ []) → Over i
    hands late zs b e =
        let handed : handed_in (did c.pit p) ≡ zs ++ (b ∷ []) = ap handed_in (done_open c.pit i p.line p.earlier w own at_w.is) ∙ e in
        let old = chain c.pit i p.earlier in
        let longer : chain c.pit i (p.line ∷ p.earlier) ≡ old ++ handed_in (did c.pit p) =
        subst (λ (j : ℕ). chain c.pit j (p.line ∷ p.earlier) ≡ chain c.pit j p.earlier ++ handed_in (did c.pit p)) own
        (chain_own c.pit p.line p.earlier (not_opening c p l)) in
        let ends : chain c.pit i (p.line ∷ p.earlier) ≡ (old ++ zs) ++ (b ∷ []) =
        longer ∙ ap (λ (x : List Body). old ++ x) handed ∙ sym (append_assoc old zs (b ∷ [])) in
        let last = chain_last blocks H (old ++ zs) b origin q.state.ledger.head
        (subst (λ (x : List Body). Chain blocks H origin x q.state.ledger.head) ends
        (ledger_sound c i (p.line ∷ p.earlier) q.state a).settled.line) in
        let this : b ≡ body = first_body b last.0 (last.1 ∙ head_is late) in
        (p, l, own, subst (λ (x : List Body). Memᴰ body x) (sym handed) (subst (λ (x : Body). Memᴰ x (zs ++ (b ∷ []))) this (member_last zs b)))

    crossing : w.ledger.head.view < c.v → (q.state.ledger.head.view < c.v) ⊎ Over i
    crossing low = ⊎_elim (λ early. inl early) (λ late. inr (at late (ended i p l own w at_w))) (cases_lt q.state.ledger.head.view c.v)
      where
        at : c.v ≤ q.state.ledger.head.view → Ends w q → Over i
        at late (inl e) = absurd (omega (arith, late, low, ap (λ (g : Ledger). g.head.view) e))
        at late (inr x) = ⊎_elim
            (λ e. absurd (omega (arith, late, low, ap (λ (g : Ledger). g.head.view) x.1, ap (λ (k : Key). k.view) (e ∙ x.4))))
            (λ y. hands late y.0 y.1 (x.2 ∙ y.2))
            (settled_hands w.seat.n x.0)

  pub handed_over : (i : ℕ) → Sound c.pit i → HandsOver c.pit c.st i c.timely.first.body
  handed_over i sound =
      let z = c.timely.all_ready i sound in
      let l = live c i c.st.before z.0 (record { sound = sound; now = the_start c; is = z.1 }) in
      let e = open_at c i sound c.st.run (the_end c) in
      let low : z.0.ledger.head.view < c.v = ⊎_elim
      (λ x. omega (arith, x, l.clock, z.2.0)) (λ x. omega (arith, x, c.timely.positive)) l.ledger.head_below in
      let r = across c i c.st.before (the_start c) (λ x y. x.ledger.head.view < c.v → (y.ledger.head.view < c.v) ⊎ Over i)
      (λ x y. inl y)
      (λ p k f own x w hw q y.
      ⊎_elim (crossing i p k own w (record { sound = sound; now = before_spot c p k; is = hw })) (λ h. inr h) (q y))
      c.st.run (the_end c) (the_end c).inside z.0 e.0 z.1 e.1.is low in
      ⊎_elim (λ early. absurd (omega (arith, early, head_at_end i sound e.0 e.1))) (λ h. h) r

-- In a timely stretch every sound console hands over the block of its first view.
pub hand_over : StretchesHandOver
hand_over pit sheet good v st t i sound =
    let earlier : sheet ≡ (st.rest ++ (st.close ∷ [])) ++ st.run = st.ends ∙ sym (append_assoc st.rest (st.close ∷ []) st.run) in
    let run : SoundSheet pit st.run = sound_earlier pit (st.rest ++ (st.close ∷ [])) st.run (subst (SoundSheet pit) earlier good) in
    handed_over (record { pit = pit; sheet = sheet; v = v; st = st; timely = t; good = run; reads = readable pit st.run run }) i sound
