-- The number that a refused call answers.
use Rattle.std.specs.Prelude.{ℕ}
use Rattle.rules.specs.declared.refusal.Refusal.{Refusal}
use Rattle.rules.specs.declared.refusal.Refusal.TheVariants.{PitSize, OwnNumber, ShelfSize, OldTick, NotItsTurn, ShortOutput, BadOrders, Mark, Length, Form, ViewAhead, NotAboveHead, LeaderSeal, BadCertificate, ShelfFull, NotHeld, VoterSeal}

abbrev pub code : Refusal → ℕ
code PitSize = 1
code OwnNumber = 2
code ShelfSize = 3
code OldTick = 4
code NotItsTurn = 5
code ShortOutput = 6
code BadOrders = 7
code Mark = 8
code Length = 9
code Form = 10
code ViewAhead = 11
code NotAboveHead = 12
code LeaderSeal = 13
code BadCertificate = 14
code ShelfFull = 15
code NotHeld = 16
code VoterSeal = 17
