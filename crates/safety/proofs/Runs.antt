-- What holds of every sound console after every line of a sound sheet.
use Rattle.std.proofs.Common.{◌≡◌, ℕ, ◌<◌, ◌≤◌, true, false, ◌⊎◌, List, [], ◌∷◌, ◌++◌, Some, None, Option, sym, refl, ap, ◌∙◌, subst, inl, inr, ⊎_elim, arith}
use mathlib.Core.List.{Memᴰ}
use Rattle.std.proofs.lemmas.Bool.{cases_Bool, cases_eq, both_ways}
use Rattle.parts.specs.declared.store.Marks.{Marks}
use Rattle.votes.specs.Votes.{History, Among, Voted, Backed, Rising, ViewsDescend, Grows, last_view, last_lock}
use Rattle.votes.proofs.Grow.{backed_grows, rising_push}
use Rattle.wire.specs.Format.{body_key}
use Rattle.wire.specs.declared.body.Body.{Body}
use Rattle.wire.specs.declared.key.Key.{Key}
use Rattle.rules.specs.Call.{Call, opening, ticking, proposing, passing, hearing, seat_over, step}
use Rattle.rules.specs.Hear.{votes_for}
use Rattle.parts.specs.Image.{no_marks}
use Rattle.rules.specs.State.{State, Seat, opened}
use Rattle.rules.specs.Step.{opens, Outcome, only}
use Rattle.sheets.specs.Sheet.{Pit, Sound, Line, Sheet, Spot, first_opening, advance, state_after, state_at, done, handed_in, shown_in, sealed_in, relied_in, is_opening, chain}
use Rattle.sheets.specs.Sound.{Sealed, SoundSheet}
use Rattle.safety.proofs.Histories.{blocks, consoles, ballot_in, with_some, votes_of, shown_on, history, state_own, state_other, votes_own, votes_other, chain_own, chain_opening, chain_other, shown_more, some_among, some_added, grows_line, newest, sound_earlier, sealed_cases}
use Rattle.safety.proofs.Ledgers.{ledger_grows, empty_sound}
use Rattle.rules.specs.Options.{absent, same_some}
use Rattle.safety.proofs.Steps.{Told, AtConsole, MarksMove, GoodStep, step_good}

-- an empty sheet has no line
no_spot : Spot [] → ⊥
no_spot q = at q.later q.here
  where
    at : (later : Sheet) → [] ≡ later ++ (q.line ∷ q.earlier) → ⊥
    at [] e = let z : ◌≡◌ {A = ℕ} 0 1 = cc in omega arith
    at (x ∷ xs) e = let z : ◌≡◌ {A = ℕ} 0 1 = cc in omega arith

-- ---- what holds

-- an open console: lock and voted are those of its last vote
pub record OpenConsole (pit : Pit) (lines : Sheet) (i : ℕ) (s : State) : Type 0 where
  pub stands : AtConsole pit (history pit lines) i (chain pit i lines) s
  pub voted : s.marks.voted ≡ last_view blocks (votes_of pit lines i)
  pub lock : s.marks.lock ≡ last_lock blocks (votes_of pit lines i)

pub record SoundConsole (pit : Pit) (lines : Sheet) (i : ℕ) : Type 0 where
  pub open_state : (s : State) → state_at pit i lines ≡ Some s → OpenConsole pit lines i s
  -- before its first opening it has no votes and an empty chain
  pub closed : state_at pit i lines ≡ None → (votes_of pit lines i ≡ []) × (chain pit i lines ≡ [])
  pub rise : Rising blocks (votes_of pit lines i)
  pub known : (b : Body) → Among b (votes_of pit lines i) → Among b (shown_on pit lines)
  pub backed : (b : Body) → Among b (votes_of pit lines i) → Backed blocks (consoles pit) (history pit lines) b.parent
  -- a sealed vote was cast
  pub sealed : (k : Key) → Sealed pit lines i (votes_for k) → Voted blocks (history pit lines) i k

pub record SoundRun (pit : Pit) (lines : Sheet) : Type 0 where
  pub console : (i : ℕ) → Sound pit i → SoundConsole pit lines i
  pub descend : ViewsDescend blocks (history pit lines)

-- ---- growth

pub console_grows : (pit : Pit) (g h : History blocks) → Grows blocks g h → (i : ℕ) (bodies : List Body) (s : State)
    → AtConsole pit g i bodies s → AtConsole pit h i bodies s
console_grows pit g h grows i bodies s c =
    record { size = c.size; own = c.own; store = c.store; ledger = ledger_grows pit g h grows bodies s.ledger c.ledger }

voted_grows : (g h : History blocks) → Grows blocks g h → (i : ℕ) (k : Key) → Voted blocks g i k → Voted blocks h i k
voted_grows g h grows i k v = (v.0, grows.votes i v.0 v.1, v.2)

-- ---- a line at another console

other_console : (pit : Pit) (l : Line) (ls : Sheet) (i : ℕ) → (l.console ≡ i → ⊥) → SoundConsole pit ls i → SoundConsole pit (l ∷ ls) i
other_console pit l ls i apart c = record {
  open_state = λ s e.
      let o = c.open_state s (sym (state_other pit l ls i apart) ∙ e) in
      record {
        stands = subst (λ (bs : List Body). AtConsole pit (history pit (l ∷ ls)) i bs s) (sym (chain_other pit l ls i apart))
            (console_grows pit (history pit ls) (history pit (l ∷ ls)) grows i (chain pit i ls) s o.stands);
        voted = o.voted ∙ ap (last_view blocks) (sym same);
        lock = o.lock ∙ ap (last_lock blocks) (sym same);
      };
  closed = λ e.
      let o = c.closed (sym (state_other pit l ls i apart) ∙ e) in
      (same ∙ o.0, chain_other pit l ls i apart ∙ o.1);
  rise = subst (Rising blocks) (sym same) c.rise;
  known = λ b m. grows.shown b (c.known b (subst (λ (vs : List Body). Among b vs) same m));
  backed = λ b m.
      backed_grows blocks (consoles pit) (history pit ls) (history pit (l ∷ ls)) grows b.parent
      (c.backed b (subst (λ (vs : List Body). Among b vs) same m));
  sealed = λ k e.
      ⊎_elim
      (λ f. absurd (apart f.0))
      (λ f. voted_grows (history pit ls) (history pit (l ∷ ls)) grows i k (c.sealed k f))
      (sealed_cases pit l ls i (votes_for k) e);
}
  where
    grows : Grows blocks (history pit ls) (history pit (l ∷ ls))
    grows = grows_line pit l ls

    same : votes_of pit (l ∷ ls) i ≡ votes_of pit ls i
    same = votes_other pit l ls i apart

-- ---- a line at the console

-- what a line adds is as it should be
pub record GoodLine (pit : Pit) (l : Line) (ls : Sheet) : Type 0 where
  pub open_state : (s : State) → state_at pit l.console (l ∷ ls) ≡ Some s → OpenConsole pit (l ∷ ls) l.console s
  pub closed : state_at pit l.console (l ∷ ls) ≡ None
      → (votes_of pit (l ∷ ls) l.console ≡ []) × (chain pit l.console (l ∷ ls) ≡ [])
  pub later : (b : Body) → ballot_in (done pit l ls) ≡ Some b
      → (last_view blocks (votes_of pit ls l.console) < b.view) × (last_lock blocks (votes_of pit ls l.console) ≤ b.parent.view)
  pub ballot : (b : Body) → ballot_in (done pit l ls) ≡ Some b
      → Among b (shown_on pit (l ∷ ls)) × Backed blocks (consoles pit) (history pit (l ∷ ls)) b.parent
  pub sealed : (k : Key) → sealed_in (done pit l ls) ≡ Some (votes_for k) → (b : Body) × (ballot_in (done pit l ls) ≡ Some b) × (body_key b ≡ k)
  pub shown : (b : Body) → shown_in (done pit l ls) ≡ Some b → b.parent.view < b.view

rising_some : (o : Option Body) (vs : List Body) → Rising blocks vs
    → ((b : Body) → o ≡ Some b → (last_view blocks vs < b.view) × (last_lock blocks vs ≤ b.parent.view)) → Rising blocks (with_some o vs)
rising_some None vs r f = r
rising_some (Some b) vs r f = let p = f b refl in rising_push blocks vs b r p.0 p.1

own_console : (pit : Pit) (l : Line) (ls : Sheet) → GoodLine pit l ls → SoundConsole pit ls l.console
    → SoundConsole pit (l ∷ ls) l.console
own_console pit l ls good c = record {
  open_state = good.open_state;
  closed = good.closed;
  rise = subst (Rising blocks) (sym added) (rising_some _ _ c.rise good.later);
  known = λ b m. ⊎_elim (λ e. (good.ballot b e).0) (λ k. grows.shown b (c.known b k)) (either b m);
  backed = λ b m.
      ⊎_elim
      (λ e. (good.ballot b e).1)
      (λ k. backed_grows blocks (consoles pit) (history pit ls) (history pit (l ∷ ls)) grows b.parent (c.backed b k))
      (either b m);
  sealed = λ k e.
      ⊎_elim
      (λ f.
      let b = good.sealed k f.1 in
      (b.0, subst (λ (vs : List Body). Among b.0 vs) (sym added) (some_added _ _ b.0 b.1), b.2))
      (λ f. voted_grows (history pit ls) (history pit (l ∷ ls)) grows l.console k (c.sealed k f))
      (sealed_cases pit l ls l.console (votes_for k) e);
}
  where
    grows : Grows blocks (history pit ls) (history pit (l ∷ ls))
    grows = grows_line pit l ls

    added : votes_of pit (l ∷ ls) l.console ≡ with_some (ballot_in (done pit l ls)) (votes_of pit ls l.console)
    added = votes_own pit l ls

    either : (b : Body) → Among b (votes_of pit (l ∷ ls) l.console) → (ballot_in (done pit l ls) ≡ Some b) ⊎ Among b (votes_of pit ls l.console)
    either b m = some_among _ _ b (subst (λ (vs : List Body). Among b vs) added m)

-- ---- lock and voted follow the votes

moved_voted : (o : Option Body) (vs : List Body) (m w : Marks) → MarksMove o m w → m.voted ≡ last_view blocks vs
    → w.voted ≡ last_view blocks (with_some o vs)
moved_voted None vs m w f e = f.0 ∙ e
moved_voted (Some b) vs m w f e = f.2

moved_lock : (o : Option Body) (vs : List Body) (m w : Marks) → MarksMove o m w → m.lock ≡ last_lock blocks vs
    → w.lock ≡ last_lock blocks (with_some o vs)
moved_lock None vs m w f e = f.1 ∙ e
moved_lock (Some b) vs m w f e = f.3

moved_later : (o : Option Body) (vs : List Body) (m w : Marks) → MarksMove o m w → m.voted ≡ last_view blocks vs
    → m.lock ≡ last_lock blocks vs → (b : Body) → o ≡ Some b → (last_view blocks vs < b.view) × (last_lock blocks vs ≤ b.parent.view)
moved_later o vs m w f e k b q =
    let g : MarksMove (Some b) m w = subst (λ (x : Option Body). MarksMove x m w) q f in
    (subst (λ (x : ℕ). x < b.view) e g.0, subst (λ (x : ℕ). x ≤ b.parent.view) k g.1)

-- ---- every line is good

opening_is : (c : Call) → is_opening c ≡ true → (slots : ℕ) × (c ≡ opening slots)
opening_is (opening slots) e = (slots, refl)
opening_is (ticking t) e = absurd (both_ways false refl e)
opening_is (proposing owed orders space) e = absurd (both_ways false refl e)
opening_is (passing owed) e = absurd (both_ways false refl e)
opening_is (hearing bytes) e = absurd (both_ways false refl e)

not_first : (pit : Pit) (i : ℕ) (c : Call) → is_opening c ≡ false → first_opening pit i c ≡ None
not_first pit i (opening slots) e = absurd (both_ways true e refl)
not_first pit i (ticking t) e = refl
not_first pit i (proposing owed orders space) e = refl
not_first pit i (passing owed) e = refl
not_first pit i (hearing bytes) e = refl

module _ (pit : Pit) (l : Line) (ls : Sheet) (sheet : SoundSheet pit (l ∷ ls)) (run : SoundRun pit ls) where
  -- the line's console
  sound : Sound pit l.console
  sound = sheet.lines (newest l ls)

  before : SoundConsole pit ls l.console
  before = run.console l.console sound

  grows : Grows blocks (history pit ls) (history pit (l ∷ ls))
  grows = grows_line pit l ls

  -- the history after the line has what the line adds
  pub told : (o : Outcome) → done pit l ls ≡ Some o → Told pit (history pit (l ∷ ls)) l.console o
  told o e = record {
    shown = λ b f. subst (λ (bs : List Body). Among b bs) (sym (shown_more pit l ls)) (some_added _ _ b (ap shown_in e ∙ f));
    ballot = λ b f. subst (λ (bs : List Body). Among b bs) (sym (votes_own pit l ls)) (some_added _ _ b (ap ballot_in e ∙ f));
    relied = λ j k s m.
        let q = sheet.seals (newest l ls) (record { signer = j; statement = votes_for k })
        (subst (Memᴰ (record { signer = j; statement = votes_for k })) (ap relied_in (sym e)) m) s in
        voted_grows (history pit ls) (history pit (l ∷ ls)) grows j k ((run.console j s).sealed k q);
  }

  -- a line that only opens, or does nothing
  quiet : (d : Option Outcome) → done pit l ls ≡ d → ballot_in d ≡ None → sealed_in d ≡ None → shown_in d ≡ None
      → ((s : State) → state_at pit l.console (l ∷ ls) ≡ Some s → OpenConsole pit (l ∷ ls) l.console s)
      → (state_at pit l.console (l ∷ ls) ≡ None → (votes_of pit (l ∷ ls) l.console ≡ []) × (chain pit l.console (l ∷ ls) ≡ []))
      → GoodLine pit l ls
  quiet d e b st sh open_state closed = record {
    open_state = open_state;
    closed = closed;
    later = λ x f. absent x (sym (ap ballot_in e ∙ b) ∙ f);
    ballot = λ x f. absent x (sym (ap ballot_in e ∙ b) ∙ f);
    sealed = λ k f. absent (votes_for k) (sym (ap sealed_in e ∙ st) ∙ f);
    shown = λ x f. absent x (sym (ap shown_in e ∙ sh) ∙ f);
  }

  -- no ballot, no new vote
  same_votes : (d : Option Outcome) → done pit l ls ≡ d → ballot_in d ≡ None → votes_of pit (l ∷ ls) l.console ≡ votes_of pit ls l.console
  same_votes d e b = votes_own pit l ls ∙ ap (λ (o : Option Body). with_some o (votes_of pit ls l.console)) (ap ballot_in e ∙ b)

  -- the state that the line leaves
  left_state : (o : Outcome) → done pit l ls ≡ Some o → (s : State) → state_at pit l.console (l ∷ ls) ≡ Some s → o.state ≡ s
  left_state o e s f =
      same_some o.state s (sym (state_own pit l ls ∙ ap (λ (d : Option Outcome). state_after d (state_at pit l.console ls)) e) ∙ f)

  left_open : {B : Type 0} (o : Outcome) → done pit l ls ≡ Some o → state_at pit l.console (l ∷ ls) ≡ None → B
  left_open o e n =
      absent o.state (sym n ∙ state_own pit l ls ∙ ap (λ (d : Option Outcome). state_after d (state_at pit l.console ls)) e)

  opens_line : (seat : Seat) (kept : Marks) → done pit l ls ≡ Some (only opens (opened seat kept)) → is_opening l.call ≡ true
      → seat.n ≡ pit.n → seat.own ≡ l.console → kept.voted ≡ last_view blocks (votes_of pit ls l.console)
      → kept.lock ≡ last_lock blocks (votes_of pit ls l.console) → GoodLine pit l ls
  opens_line seat kept e op size own voted lock =
      let same = same_votes _ e refl in
      let console : OpenConsole pit (l ∷ ls) l.console (opened seat kept) = record {
        stands =
            subst (λ (bs : List Body). AtConsole pit (history pit (l ∷ ls)) l.console bs (opened seat kept)) (sym (chain_opening pit l ls op))
            (record { size = size; own = own; store = refl; ledger = empty_sound pit (history pit (l ∷ ls)) seat.slots });
        voted = voted ∙ ap (last_view blocks) (sym same);
        lock = lock ∙ ap (last_lock blocks) (sym same);
      } in
      quiet _ e refl refl refl
      (λ s f. subst (OpenConsole pit (l ∷ ls) l.console) (left_state _ e s f) console)
      (λ n. left_open _ e n)

  idle_line : state_at pit l.console ls ≡ None → is_opening l.call ≡ false → GoodLine pit l ls
  idle_line none op =
      let e : done pit l ls ≡ None = ap (advance pit l) none ∙ not_first pit l.console l.call op in
      let still : state_at pit l.console (l ∷ ls) ≡ None =
      state_own pit l ls ∙ ap (λ (d : Option Outcome). state_after d (state_at pit l.console ls)) e ∙ none in
      let c = before.closed none in
      quiet None e refl refl refl
      (λ s f. absent s (sym still ∙ f))
      (λ _. (
        same_votes None e refl ∙ c.0,
        chain_own pit l ls op ∙ ap (λ (d : Option Outcome). chain pit l.console ls ++ handed_in d) e
            ∙ ap (λ (bs : List Body). bs ++ []) c.1,
      ))

  step_line : (s : State) → state_at pit l.console ls ≡ Some s → is_opening l.call ≡ false → GoodLine pit l ls
  step_line s was op = record {
    open_state = λ w f. subst (OpenConsole pit (l ∷ ls) l.console) (left_state o e w f) console;
    closed = λ n. left_open o e n;
    later = λ b f. moved_later o.ballot (votes_of pit ls l.console) s.marks o.state.marks good.marks c.voted c.lock b (sym (ap ballot_in e) ∙ f);
    ballot = λ b f. good.ballot b (sym (ap ballot_in e) ∙ f);
    sealed = λ k f. let b = good.sealed k (sym (ap sealed_in e) ∙ f) in (b.0, ap ballot_in e ∙ b.1, b.2);
    shown = λ b f. good.shown b (sym (ap shown_in e) ∙ f);
  }
    where
      o : Outcome
      o = step (pit.table l.console) l.seal s l.call

      e : done pit l ls ≡ Some o
      e = ap (advance pit l) was

      c : OpenConsole pit ls l.console s
      c = before.open_state s was

      good : GoodStep pit (history pit (l ∷ ls)) l.console (chain pit l.console ls) s o
      good =
          step_good pit (history pit (l ∷ ls)) l.console sound.0 sheet.the_pit.sixteen (chain pit l.console ls)
          (pit.table l.console) l.seal s l.call op
          (console_grows pit (history pit ls) (history pit (l ∷ ls)) grows l.console (chain pit l.console ls) s c.stands)
          (told o e)

      votes : votes_of pit (l ∷ ls) l.console ≡ with_some o.ballot (votes_of pit ls l.console)
      votes = votes_own pit l ls ∙ ap (λ (d : Option Outcome). with_some (ballot_in d) (votes_of pit ls l.console)) e

      console : OpenConsole pit (l ∷ ls) l.console o.state
      console = record {
        stands =
            subst (λ (bs : List Body). AtConsole pit (history pit (l ∷ ls)) l.console bs o.state)
            (sym (chain_own pit l ls op ∙ ap (λ (d : Option Outcome). chain pit l.console ls ++ handed_in d) e)) good.after;
        voted = moved_voted o.ballot (votes_of pit ls l.console) s.marks o.state.marks good.marks c.voted ∙ ap (last_view blocks) (sym votes);
        lock = moved_lock o.ballot (votes_of pit ls l.console) s.marks o.state.marks good.marks c.lock ∙ ap (last_lock blocks) (sym votes);
      }

  again_line : (s : State) → state_at pit l.console ls ≡ Some s → is_opening l.call ≡ true → GoodLine pit l ls
  again_line s was op =
      let slots = opening_is l.call op in
      let c = before.open_state s was in
      let e : done pit l ls ≡ Some (only opens (opened (seat_over s.seat slots.0) s.store)) =
      ap (advance pit l) was ∙ ap (λ (x : Call). Some (step (pit.table l.console) l.seal s x)) slots.1 in
      opens_line (seat_over s.seat slots.0) s.store e op c.stands.size c.stands.own
      (ap (λ (m : Marks). m.voted) c.stands.store ∙ c.voted)
      (ap (λ (m : Marks). m.lock) c.stands.store ∙ c.lock)

  first_line : state_at pit l.console ls ≡ None → is_opening l.call ≡ true → GoodLine pit l ls
  first_line none op =
      let slots = opening_is l.call op in
      let c = before.closed none in
      let e : done pit l ls ≡ Some (only opens (opened (record { n = pit.n; own = l.console; slots = slots.0 }) no_marks)) =
      ap (advance pit l) none ∙ ap (first_opening pit l.console) slots.1 in
      opens_line _ no_marks e op refl refl (ap (last_view blocks) (sym c.0)) (ap (last_lock blocks) (sym c.0))

  pub good_line : GoodLine pit l ls
  good_line = at (state_at pit l.console ls) refl (cases_Bool (is_opening l.call))
    where
      at : (o : Option State) → state_at pit l.console ls ≡ o → (is_opening l.call ≡ true) ⊎ (is_opening l.call ≡ false)
          → GoodLine pit l ls
      at None e (inl op) = first_line e op
      at None e (inr op) = idle_line e op
      at (Some s) e (inl op) = again_line s e op
      at (Some s) e (inr op) = step_line s e op

  run_more : SoundRun pit (l ∷ ls)
  run_more = record {
    console = λ i s.
        ⊎_elim
        (λ e. subst (SoundConsole pit (l ∷ ls)) e (own_console pit l ls good_line before))
        (λ n. other_console pit l ls i n (run.console i s))
        (cases_eq l.console i);
    descend = λ b m.
        ⊎_elim (good_line.shown b) (run.descend b)
        (some_among _ _ b (subst (λ (bs : List Body). Among b bs) (shown_more pit l ls) m));
  }

-- ---- the whole run

run_none : (pit : Pit) → SoundRun pit []
unfolding state_at votes_of shown_on chain
run_none pit = record {
  console = λ i s. record {
    open_state = λ w e. absent w e;
    closed = λ _. (refl, refl);
    rise = tt;
    known = λ b m. absurd m;
    backed = λ b m. absurd m;
    sealed = λ k q. absurd (no_spot q.0);
  };
  descend = λ b m. absurd m;
}

pub sound_run : (pit : Pit) (lines : Sheet) → SoundSheet pit lines → SoundRun pit lines
sound_run pit [] s = run_none pit
sound_run pit (l ∷ ls) s = run_more pit l ls s (sound_run pit ls (sound_earlier pit (l ∷ []) ls s))
