-- What sound consoles make can be read.
use Rattle.std.proofs.Common.{◌≡◌, ℕ, ◌-◌, ◌^◌, ◌<◌, ◌≤◌, true, not, ◌&&◌, ◌||◌, eqb, ltb, leb, List, [], ◌∷◌, ◌++◌, length, replicate, Some, None, Ok, Option, sym, refl, ap, ◌∙◌, subst, inl, inr, ⊎_elim, arith, pow_mono}
use Rattle.std.specs.List.{AllByRecursion}
use Rattle.std.proofs.lemmas.List.{take_at}
use Rattle.std.proofs.lemmas.Bool.{cases_Bool, cond_both, and_from, and_parts, or_left, or_right, ltb-true, lt-ltb, leb-true, le-leb, eqb-true}
use Rattle.digest.proofs.Blocks.{length-digest}
use Rattle.votes.specs.Votes.{Backed}
use Rattle.votes.proofs.Agree.{certified_body}
use Rattle.wire.specs.Canon.{KeyFits, OrderFits, WellFormed}
use Rattle.wire.specs.Format.{signed, origin, origin_certificate, same_key, body_key, body_name, body_bytes, vote_bytes, proposal_bytes, message_bytes, orders_of, pack, blank}
use Rattle.wire.specs.Read.{read, all_well_formed, proposal_stands}
use Rattle.wire.specs.declared.body.Body.{Body}
use Rattle.wire.specs.declared.certificate.Certificate.{Certificate}
use Rattle.wire.specs.declared.key.Key.{Key}
use Rattle.wire.specs.declared.message.Message.TheVariants as message
use Rattle.wire.specs.declared.message.Vote.{Vote}
use Rattle.wire.specs.declared.order.Order.{Order}
use Rattle.wire_laws.proofs.Messages.{message_forth}
use Rattle.rules.specs.declared.block.Block.{Block}
use Rattle.rules.specs.Blocks.{On, block_key, held, is_held}
use Rattle.rules.specs.Call.{Call, opening, ticking, proposing, passing, hearing, step}
use Rattle.rules.specs.Hear.{take_up, count_vote}
use Rattle.rules.specs.Pit.{view_of}
use Rattle.rules.specs.Propose.{propose, propose_body, body_on_top, placed_if_new}
use Rattle.rules.specs.Settle.{settle, placed, higher_certificate, with_top, joined, with_tally, completes, enter}
use Rattle.rules.specs.State.{State, Ledger, Table, empty_ledger}
use Rattle.rules.specs.Step.{opens, vote, Outcome, Owed}
use Rattle.rules.specs.Tick.{clocked, vote_for}
use Rattle.rules.specs.Options.{absent, same_some}
use Rattle.rules.specs.Shelves.{held_on, on_put, none_on, key_itself}
use Rattle.sheets.specs.Sheet.{Pit, Line, Sheet, Spot, state_at, advance, first_opening, did, answer_in, shown_in}
use Rattle.sheets.specs.Sound.{SoundSheet, Typed, TypedCall}
use Rattle.safety.proofs.Agreement.{lawful}
use Rattle.safety.proofs.Grounds.{ProposeStands, candidate_on}
use Rattle.safety.proofs.Histories.{blocks, consoles, history, newest, sound_earlier}
use Rattle.safety.proofs.Reading.{read_proposal, read_vote}
use Rattle.safety.proofs.Runs.{sound_run}
use Rattle.liveness.proofs.Effects.{shows_proposal, vote_made}
use Rattle.liveness.proofs.Fits.{Fit, nobody_fits, entered_fits, vote_seal, certificate_fits}
use Rattle.liveness.proofs.Induct.{along, stepped, done_open}
use Rattle.liveness.proofs.Lookup.{enter_held, on_replaced}
use Rattle.liveness.proofs.Moments.{spot_lines}
use Rattle.liveness.proofs.Run.{seats}
use Rattle.liveness.proofs.Settling.{settled_on, settled_top}
use Rattle.liveness.proofs.States.{candidate_held}
use Rattle.liveness.proofs.Stretches.{Readable}
use Rattle.liveness.proofs.Ways.{tick_ways, propose_ways, hear_ways, taken_up, take_up_ways, other_kind}

-- ---- ledgers

module _ (n : ℕ) where
  -- a certificate that can be sent; of view 0 it is the origin's
  pub record TopFits (c : Certificate) : Type 0 where
    pub signers : Fit n c.signers
    pub zero_view : c.block.view ≡ 0 → c ≡ origin_certificate

  pub record FitLedger (g : Ledger) : Type 0 where
    pub tallies : (b : Block) → On b g.shelf → Fit n b.tally
    pub top : TopFits g.top

  empty_fits : (slots : ℕ) → FitLedger (empty_ledger slots)
  empty_fits slots = record { tallies = λ b o. absurd (none_on slots b o); top = record { signers = nobody_fits n; zero_view = λ _. refl } }

  higher_fits : (top c : Certificate) → TopFits top → Fit n c.signers → TopFits (higher_certificate top c)
  higher_fits top c t f =
      cond_both (ltb top.block.view c.block.view) c top TopFits
      (λ l. record { signers = f; zero_view = λ e. absurd (omega (arith, ltb-true _ _ l, e)) }) (λ _. t)

  placed_fits : (b : Block) (g : Ledger) → Fit n b.tally → FitLedger g → FitLedger (placed b g)
  placed_fits b g f l = record {
    tallies = λ d o. ⊎_elim (λ e. subst (λ (x : Block). Fit n x.tally) (sym e) f) (l.tallies d) (on_put g.shelf b d o);
    top = l.top;
  }

  with_top_fits : (c : Certificate) (g : Ledger) → Fit n c.signers → FitLedger g → FitLedger (with_top c g)
  with_top_fits c g f l = record { tallies = l.tallies; top = higher_fits g.top c l.top f }

  settled_fits : (g : Ledger) → FitLedger g → FitLedger (settle n g).ledger
  settled_fits g l = record {
    tallies = λ b o. l.tallies b (settled_on n g b o);
    top = subst TopFits (sym (settled_top n g)) l.top;
  }

  entered_fits_in : (k : Key) (voter : ℕ) (seal : List ℕ) (b : Block) (g : Ledger) → held k g.shelf ≡ Some b → voter < n → n ≤ 16 → length seal ≡ 16
      → FitLedger g → FitLedger (enter n k voter seal g)
  entered_fits_in k voter seal b g h lv ln e l =
      let old = l.tallies b (held_on k g.shelf b h).0 in
      let t = joined voter seal b.tally in
      let fits : Fit n (joined voter seal b.tally) =
      cond_both (signed b.tally.set voter) b.tally _ (Fit n) (λ _. old) (λ _. entered_fits n b.tally voter seal lv ln e old) in
      subst FitLedger (sym (enter_held n k voter seal b g h))
      (record {
        tallies = λ d o. ⊎_elim (λ q. subst (λ (x : Block). Fit n x.tally) (sym q) fits) (l.tallies d)
            (on_replaced k (with_tally b (joined voter seal b.tally)) d g.shelf o);
        top = cond_both (completes n b.tally (joined voter seal b.tally)) _ g.top TopFits
            (λ _. higher_fits g.top (record { block = block_key b; signers = joined voter seal b.tally }) l.top fits) (λ _. l.top);
      })

-- ---- states

-- a tick of four bytes, a ledger that fits
pub record Fits (s : State) : Type 0 where
  pub tick : s.tick < 2 ^ 32
  pub ledger : FitLedger s.seat.n s.ledger

step_fits : (table : Table) (l : Line) (s : State) → Typed l → s.seat.n ≤ 16 → s.seat.own < s.seat.n → Fits s
    → (call : Call) → TypedCall call → Fits (step table l.seal s call).state
unfolding vote_for propose_body count_vote
step_fits table l s typed sixteen own f (opening slots) c = record { tick = omega arith; ledger = empty_fits s.seat.n slots }
step_fits table l s typed sixteen own f (ticking t) c =
    tick_ways l.seal s t (λ (o : Outcome). Fits o.state) (λ r _. f) (λ u. record { tick = c; ledger = f.ledger })
    (λ u. record { tick = c; ledger = f.ledger })
    (λ b w. record {
      tick = c;
      ledger = settled_fits s.seat.n _ (entered_fits_in s.seat.n (block_key b) s.seat.own l.seal b s.ledger
          (candidate_held (clocked s t) b w.choice) own sixteen typed.sixteen f.ledger);
    })
step_fits table l s typed sixteen own f (proposing owed orders space) c =
    propose_ways l.seal s owed orders space (λ (o : Outcome). Fits o.state) (λ r. f)
    (λ w. record {
      tick = f.tick;
      ledger = settled_fits s.seat.n (placed_if_new (body_on_top s owed orders) s.ledger)
          (cond_both (is_held (body_key (body_on_top s owed orders)) s.ledger.shelf) s.ledger _ (FitLedger s.seat.n)
          (λ _. f.ledger) (λ _. placed_fits s.seat.n _ s.ledger (nobody_fits s.seat.n) f.ledger));
    })
step_fits table l s typed sixteen own f (passing owed) c = f
step_fits table l s typed sixteen own f (hearing bytes) c =
    hear_ways table s bytes (λ (o : Outcome). Fits o.state) (λ r. f) f
    (λ p w.
    let g : FitLedger s.seat.n (taken_up p s) = settled_fits s.seat.n _ (with_top_fits s.seat.n p.certificate _
    (certificate_fits s.seat.n bytes p c w.reads (read_proposal s.seat.n bytes p w.reads).signers_below)
    (placed_fits s.seat.n _ s.ledger (nobody_fits s.seat.n) f.ledger)) in
    take_up_ways p s Fits (λ _. record { tick = f.tick; ledger = g }) (λ _. record { tick = f.tick; ledger = g }))
    (λ x b w. record {
      tick = f.tick;
      ledger = settled_fits s.seat.n _ (entered_fits_in s.seat.n x.block x.voter x.seal b s.ledger w.holds
          (read_vote s.seat.n bytes x w.reads).voter_below sixteen (vote_seal s.seat.n bytes x w.reads) f.ledger);
    })

pub fits_run : (pit : Pit) (i : ℕ) → i < pit.n → (ls : Sheet) (s : State) → state_at pit i ls ≡ Some s → SoundSheet pit ls → Fits s
fits_run pit i below =
    along pit i (λ ls s. SoundSheet pit ls → Fits s)
    (λ l ls slots e good. record { tick = omega arith; ledger = empty_fits pit.n slots })
    (λ l ls s h good. h (sound_earlier pit (l ∷ []) ls good))
    (λ l ls s e k h good.
    let q = seats pit i ls s k in
    let t = good.typed (newest l ls) in
    step_fits (pit.table i) l s t (omega (arith, q.0, good.the_pit.sixteen)) (omega (arith, q.0, q.1, below))
    (h (sound_earlier pit (l ∷ []) ls good)) l.call t.call)

-- ---- keys

named_fits : (b : Body) → length (body_name b) ≡ 32
named_fits b = length-digest (body_bytes b)

-- a key that may be built on has a name of 32 bytes
backed_name : (pit : Pit) (ls : Sheet) → SoundSheet pit ls → (k : Key) → Backed blocks (consoles pit) (history pit ls) k → length k.name ≡ 32
backed_name pit ls good k (inl e) = ap (λ (x : Key). length x.name) e
backed_name pit ls good k (inr s) =
    let b = certified_body blocks (consoles pit) (history pit ls) (lawful pit ls good) k s in
    ap (λ (x : Key). length x.name) (sym b.2) ∙ named_fits b.0

-- ---- votes

-- the call cast this vote
pub record Casts (s : State) (seal : List ℕ) (x : Vote) : Type 0 where
  pub t : ℕ
  pub b : Block
  pub small : t < 2 ^ 32
  pub on : On b s.ledger.shelf
  pub at_view : b.body.view ≡ view_of t
  pub is : x ≡ vote_made b seal (clocked s t)

step_casts : (table : Table) (seal : List ℕ) (s : State) (call : Call) → TypedCall call → (x : Vote) → (step table seal s call).answer ≡ vote x → Casts s seal x
unfolding vote_for propose_body take_up count_vote
step_casts table seal s (opening slots) c x = other_kind _ _ refl
step_casts table seal s (ticking t) c x =
    tick_ways seal s t (λ (o : Outcome). o.answer ≡ vote x → Casts s seal x) (λ r _. other_kind _ _ refl) (λ u. other_kind _ _ refl) (λ u. other_kind _ _ refl)
    (λ b w e.
    let o = candidate_on (clocked s t) b w.choice in
    let v : vote_made b seal (clocked s t) ≡ x = same_vote _ x e in
    record { t = t; b = b; small = c; on = o.0; at_view = o.1; is = sym v })
  where
    same_vote : (y z : Vote) → vote y ≡ vote z → y ≡ z
    same_vote y z e = cc
step_casts table seal s (proposing owed orders space) c x =
    propose_ways seal s owed orders space (λ (o : Outcome). o.answer ≡ vote x → Casts s seal x) (λ r. other_kind _ _ refl) (λ w. other_kind _ _ refl)
step_casts table seal s (passing owed) c x = other_kind _ _ refl
step_casts table seal s (hearing bytes) c x =
    hear_ways table s bytes (λ (o : Outcome). o.answer ≡ vote x → Casts s seal x) (λ r. other_kind _ _ refl) (other_kind _ _ refl)
    (λ p w. other_kind _ _ refl) (λ y b w. other_kind _ _ refl)

module _ (pit : Pit) (sheet : Sheet) (good : SoundSheet pit sheet) where
  before : (p : Spot sheet) → SoundSheet pit p.earlier
  before p = sound_earlier pit (p.later ++ (p.line ∷ [])) p.earlier (subst (SoundSheet pit) (spot_lines p) good)

  cast_fits : (p : Spot sheet) (s : State) → state_at pit p.line.console p.earlier ≡ Some s → (x : Vote) → Casts s p.line.seal x
      → WellFormed pit.n (message.Vote x)
  cast_fits p s h x w =
      let i = p.line.console in
      let sound = good.lines p in
      let g = (((sound_run pit p.earlier (before p)).console i sound).open_state s h).stands.ledger.shelf w.b w.on in
      let q = seats pit i p.earlier s h in
      subst (λ (y : Vote). WellFormed pit.n (message.Vote y)) (sym w.is) (
        record {
          block = record { view = omega (arith, w.at_view, w.small); name = ap (λ (y : List ℕ). length y) g.named ∙ named_fits w.b.body };
          voter = omega (arith, q.1, sound.0, good.the_pit.sixteen);
          seal = (good.typed p).sixteen;
        },
        and_from (leb 1 w.b.body.view) (ltb s.seat.own pit.n) (le-leb _ _ (omega (arith, g.above))) (lt-ltb _ _ (omega (arith, q.1, sound.0))),
      )

  read_votes : (p : Spot sheet) (x : Vote) → answer_in (did pit p) ≡ Some (vote x) → read pit.n (vote_bytes x) ≡ Ok (message.Vote x)
  unfolding message_bytes
  read_votes p x e = message_forth pit.n (message.Vote x) (at (state_at pit p.line.console p.earlier) refl e)
    where
      first : (c : Call) → answer_in (first_opening pit p.line.console c) ≡ Some (vote x) → ⊥
      first (opening slots) h = other_kind opens (vote x) refl (same_some opens (vote x) h)
      first (ticking t) h = absent _ h
      first (proposing o orders space) h = absent _ h
      first (passing o) h = absent _ h
      first (hearing bytes) h = absent _ h

      at : (o : Option State) → state_at pit p.line.console p.earlier ≡ o → answer_in (advance pit p.line o) ≡ Some (vote x)
          → WellFormed pit.n (message.Vote x)
      at None k h = absurd (first p.line.call h)
      at (Some s) k h =
          cast_fits p s k x (step_casts (pit.table p.line.console) p.line.seal s p.line.call (good.typed p).call x (same_some _ (vote x) h))

  -- ---- proposals

  proposal_fits_out : (p : Spot sheet) (s : State) (owed : Owed) (orders : List Order) (space : ℕ) → state_at pit p.line.console p.earlier ≡ Some s
      → p.line.call ≡ proposing owed orders space → ProposeStands s owed orders space
      → WellFormed pit.n (message.Proposal (record { body = body_on_top s owed orders; certificate = s.ledger.top; seal = p.line.seal }))
  unfolding proposal_stands
  proposal_fits_out p s owed orders space h call w =
      let i = p.line.console in
      let sound = good.lines p in
      let typed : TypedCall (proposing owed orders space) = subst TypedCall call (good.typed p).call in
      let q = seats pit i p.earlier s h in
      let g = (((sound_run pit p.earlier (before p)).console i sound).open_state s h).stands.ledger in
      let f = subst (λ (n : ℕ). FitLedger n s.ledger) q.0 (fits_run pit i sound.0 p.earlier s h (before p)).ledger in
      let top = s.ledger.top in
      let key : KeyFits s.ledger.top.block = record {
        view = omega (arith, w.above_top, typed.0);
        name = backed_name pit p.earlier
            (before p) s.ledger.top.block g.top;
      } in
      let o = and_parts (leb (length orders) 8) (all_well_formed orders) w.orders_good in
      let few : length orders ≤ 8 = leb-true _ _ o.0 in
      let same : orders_of (pack orders) ≡ orders = take_at orders (replicate (8 - length orders) blank) (length orders) refl in
      let set : s.ledger.top.signers.set < 2 ^ 16 = omega (arith, f.top.signers.below, pow_mono good.the_pit.sixteen) in (
        record {
          body = record {
            view = typed.0;
            parent = key;
            packed = ap pack (sym same);
            few = omega (arith, ap (λ (x : List Order). length x) same, few);
            orders = subst (AllByRecursion OrderFits) (sym same) typed.1;
          };
          certificate = record { block = key; set = set; sixteen = f.top.signers.sixteen; seals = f.top.signers.seals; absent = f.top.signers.absent };
          seal = (good.typed p).sixteen;
        },
        and_from _ _ (and_from _ _ (ap all_well_formed same ∙ o.1) (lt-ltb _ _ w.above_top))
            (and_from _ _ (and_from (ltb top.signers.set (2 ^ pit.n)) _ (lt-ltb _ _ f.top.signers.below) (origin_or top f.top.zero_view))
            (key_itself s.ledger.top.block)),
      )
    where
      origin_or : (c : Certificate) → (c.block.view ≡ 0 → c ≡ origin_certificate)
          → (not (eqb c.block.view 0) || (same_key c.block origin && eqb c.signers.set 0)) ≡ true
      origin_or c z = ⊎_elim
          (λ e. let o : c ≡ origin_certificate = z (eqb-true _ _ e) in
          or_right (not (eqb c.block.view 0)) _ (subst (λ (y : Certificate). (same_key y.block origin && eqb y.signers.set 0) ≡ true) (sym o) refl))
          (λ e. or_left (not (eqb c.block.view 0)) _ (ap not e))
          (cases_Bool (eqb c.block.view 0))

  read_proposals : (p : Spot sheet) (s : State) (owed : Owed) (orders : List Order) (space : ℕ) (body : Body)
      → state_at pit p.line.console p.earlier ≡ Some s → p.line.call ≡ proposing owed orders space → shown_in (did pit p) ≡ Some body
      → read pit.n (proposal_bytes (record { body = body; certificate = s.ledger.top; seal = p.line.seal }))
      ≡ Ok (message.Proposal (record { body = body; certificate = s.ledger.top; seal = p.line.seal }))
  unfolding message_bytes
  read_proposals p s owed orders space body h call shows =
      let i = p.line.console in
      let d = done_open pit i p.line p.earlier s refl h in
      let e : stepped pit i p.line s ≡ propose p.line.seal s owed orders space = ap (step (pit.table i) p.line.seal s) call in
      let f = shows_proposal p.line.seal s owed orders space body (ap (λ (o : Outcome). o.shown) (sym e) ∙ sym (ap shown_in d) ∙ shows) in
      message_forth pit.n (message.Proposal (record { body = body; certificate = s.ledger.top; seal = p.line.seal }))
      (subst (λ (b : Body). WellFormed pit.n (message.Proposal (record { body = b; certificate = s.ledger.top; seal = p.line.seal }))) f.1
      (proposal_fits_out p s owed orders space h call f.0))

  pub readable : Readable pit sheet
  readable = record { votes = read_votes; proposals = read_proposals }
