-- What is promised of chains and boards in every shift, timely or not.
use Rattle.std.specs.Prelude.{◌≡◌, ℕ, length, Some}
use Rattle.wire.specs.declared.order.Order.{Order}
use Rattle.rules.specs.State.{State, look}
use Rattle.sheets.specs.Promise.{NeverPart, BoardShows}
use Rattle.sheets.specs.Sheet.{Pit, Sound, Sheet, Moment, state_at, chain}
use Rattle.sheets.specs.Sound.{SoundSheet}

-- Chains of sound consoles, after the same line or different ones, never part.
abbrev pub ChainsAgree : Type 0
ChainsAgree = (pit : Pit) (sheet : Sheet) → SoundSheet pit sheet
    → (i j : ℕ) → Sound pit i → Sound pit j → (a b : Moment sheet)
    → NeverPart (chain pit i a.lines) (chain pit j b.lines)

-- A sound console's chain is as long as look says.
abbrev pub ChainsCounted : Type 0
ChainsCounted = (pit : Pit) (sheet : Sheet) → SoundSheet pit sheet
    → (i : ℕ) → Sound pit i → (a : Moment sheet) (s : State) → state_at pit i a.lines ≡ Some s
    → length (chain pit i a.lines) ≡ (look s).count

-- After any lines, sound or not, a board shows its console's chain.
abbrev pub BoardsShow : (World : Type 0) → (World → Order → World) → Type 0
BoardsShow World rule = (pit : Pit) (lines : Sheet) (i : ℕ) → BoardShows World rule pit i lines
