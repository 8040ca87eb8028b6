-- What is promised of timely stretches.
use Rattle.std.specs.Prelude.{ℕ}
use Rattle.sheets.specs.Sheet.{Pit, Sound, Sheet}
use Rattle.sheets.specs.Sound.{SoundSheet}
use Rattle.sheets.specs.Timely.{Stretch, Timely, HandsOver}

-- In a timely stretch every sound console hands over the block of its first view.
abbrev pub StretchesHandOver : Type 0
StretchesHandOver = (pit : Pit) (sheet : Sheet) → SoundSheet pit sheet
    → (v : ℕ) (st : Stretch sheet v) (t : Timely pit v st) (i : ℕ) → Sound pit i
    → HandsOver pit st i t.first.body
