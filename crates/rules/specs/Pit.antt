-- The numbers of a pit of n consoles. Each rule stands here once; everything else speaks through these names.
use Rattle.std.specs.Prelude.{ℕ, ◌/◌, ◌%◌, Bool, ◌&&◌, ◌==◌, nat_le}

-- A pit has four to sixteen consoles, numbered from 0.
abbrev pub pit_size : ℕ → Bool
pit_size n = nat_le 4 n && nat_le n 16

-- The console that proposes in view v.
abbrev pub leader : ℕ → ℕ → ℕ
leader n v = v % n

-- A view lasts two ticks. The even one is for proposing, the odd one for voting.
abbrev pub view_of : ℕ → ℕ
view_of t = t / 2

abbrev pub for_proposing : ℕ → Bool
for_proposing t = t % 2 == 0

-- A console works on a shelf of 8 to 256 slots.
abbrev pub shelf_size : ℕ → Bool
shelf_size slots = nat_le 8 slots && nat_le slots 256

-- The longest proposal: eight orders and sixteen signers.
abbrev pub longest_proposal : ℕ
longest_proposal = 421
