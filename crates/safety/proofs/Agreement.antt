-- A sound sheet is a lawful history, so that its chains never part.
use Rattle.std.proofs.Common.{◌≡◌, ℕ, Some, None, Option, sym, refl, ap, subst, arith}
use Rattle.votes.specs.Votes.{Lawful, Settled}
use Rattle.votes.proofs.Agree.{agreement, meet_by_count}
use Rattle.votes.proofs.Grow.{settled_grows, settled_none}
use Rattle.wire.specs.Format.{origin}
use Rattle.wire.specs.declared.key.Key.{Key}
use Rattle.rules.specs.State.{State}
use Rattle.sheets.specs.Sheet.{Pit, Sound, Sheet, Moment, state_at, chain}
use Rattle.sheets.specs.Sound.{SoundSheet}
use Rattle.safety.specs.Agreement.{ChainsAgree, ChainsCounted}
use Rattle.safety.proofs.Histories.{blocks, consoles, history, sound_moment, grows_moment, shown_sheet}
use Rattle.safety.proofs.Runs.{sound_run}

pub lawful : (pit : Pit) (sheet : Sheet) → SoundSheet pit sheet → Lawful blocks (consoles pit) (history pit sheet)
lawful pit sheet s =
    let run = sound_run pit sheet s in
    record {
      meet = meet_by_count pit.n pit.sound (omega (arith, s.the_pit.four)) s.the_pit.few_faulty;
      rise = λ i sound. (run.console i sound).rise;
      known = λ i sound. (run.console i sound).known;
      backed = λ i sound. (run.console i sound).backed;
      descend = run.descend;
      apart = λ a b m n e. s.digests a b (shown_sheet pit sheet a m) (shown_sheet pit sheet b n) (ap (λ (k : Key). k.name) e);
      start = refl;
    }

-- A sound console's chain is settled, with its head where it is open.
pub settled_at : (pit : Pit) (lines : Sheet) → SoundSheet pit lines → (i : ℕ) → Sound pit i
    → (head : Key) × Settled blocks (consoles pit) (history pit lines) head (chain pit i lines)
settled_at pit lines s i sound = at (state_at pit i lines) refl
  where
    at : (o : Option State) → state_at pit i lines ≡ o → (head : Key) × Settled blocks (consoles pit) (history pit lines) head (chain pit i lines)
    at None e =
        let c = ((sound_run pit lines s).console i sound).closed e in
        (origin, subst (Settled blocks (consoles pit) (history pit lines) origin) (sym c.1) (settled_none blocks (consoles pit) (history pit lines)))
    at (Some w) e =
        (w.ledger.head, (((sound_run pit lines s).console i sound).open_state w e).stands.ledger.settled)

-- settled at a moment, so in the whole sheet's history
pub settled_in_sheet : (pit : Pit) (sheet : Sheet) → SoundSheet pit sheet → (i : ℕ) → Sound pit i → (a : Moment sheet)
    → (head : Key) × Settled blocks (consoles pit) (history pit sheet) head (chain pit i a.lines)
settled_in_sheet pit sheet s i sound a =
    let e = settled_at pit a.lines (sound_moment pit sheet s a) i sound in
    (e.0, settled_grows blocks (consoles pit) (history pit a.lines) (history pit sheet) (grows_moment pit sheet a) e.0 (chain pit i a.lines) e.1)

pub chains_agree : ChainsAgree
chains_agree pit sheet s i j si sj a b =
    let x = settled_in_sheet pit sheet s i si a in
    let y = settled_in_sheet pit sheet s j sj b in
    agreement blocks (consoles pit) (history pit sheet) (lawful pit sheet s) x.0 y.0
    (chain pit i a.lines) (chain pit j b.lines) x.1 y.1

pub chains_counted : ChainsCounted
chains_counted pit sheet s i sound a w e =
    (((sound_run pit a.lines (sound_moment pit sheet s a)).console i sound).open_state w e).stands.ledger.counted
