-- A small history, to show that all that is asked of a history can be met at once.
use Rattle.std.specs.Prelude.{ℕ, zero, suc, not, List, [], ◌∷◌, ◌==◌}
use Rattle.votes.specs.Quorum.{Few}
use Rattle.votes.specs.Votes.{Blocks, Consoles, counted_consoles, History, Lawful, Final, Settled}

-- Three blocks: the first, one in the next view upon it, and a rival of that one which nobody sound votes for.
pub data Body : Type 0 where
  first second rival : Body

pub record Key : Type 0 where
  pub view : ℕ
  pub name : ℕ

abbrev pub key : Body → Key
key first = record { view = 1; name = 7 }
key second = record { view = 2; name = 8 }
key rival = record { view = 2; name = 9 }

abbrev pub origin : Key
origin = record { view = 0; name = 0 }

abbrev pub parent : Body → Key
parent first = origin
parent second = key first
parent rival = origin

abbrev pub blocks : Blocks
blocks = record { Body = Body; Key = Key; view = λ k. k.view; key = key; parent = parent; origin = origin }

-- Four consoles, the last of them unsound.
abbrev pub consoles : Consoles
consoles = counted_consoles 4 (λ i. not (i == 3))

-- The three sound consoles vote for the first block and then for the second, the other for the rival.
abbrev pub votes : ℕ → List Body
votes zero = second ∷ first ∷ []
votes (suc zero) = second ∷ first ∷ []
votes (suc (suc zero)) = second ∷ first ∷ []
votes (suc (suc (suc i))) = rival ∷ []

abbrev pub history : History blocks
history = record { votes = votes; shown = rival ∷ second ∷ first ∷ [] }

-- No more consoles are unsound than four can spare, the history is lawful, and the first block is final in it: a chain of that one block is settled.
pub record Met : Type 0 where
  pub few : Few 4 consoles.sound
  pub lawful : Lawful blocks consoles history
  pub final : Final blocks consoles history (key first)
  pub settled : Settled blocks consoles history (key first) (first ∷ [])
