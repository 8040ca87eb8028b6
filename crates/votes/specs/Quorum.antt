-- Weights and quorums. A set of consoles is a number: console i is in it where its bit i is set.
use Rattle.std.specs.Prelude.{◌≡◌, ℕ, zero, suc, ◌+◌, ◌-◌, ◌/◌, ◌%◌, ◌^◌, ◌<◌, ◌≤◌, Bool, true, cond, not, T, ◌==◌, count_ones, nat_le}

-- console i is in the set q
abbrev pub Holds : ℕ → ℕ → Type 0
Holds q i = q / 2 ^ i % 2 ≡ 1

-- the same as a test
abbrev pub in_set : ℕ → ℕ → Bool
in_set q i = q / 2 ^ i % 2 == 1

-- what the consoles below n that pass a test weigh together
unfoldable pub weight : ℕ → (ℕ → ℕ) → (ℕ → Bool) → ℕ
weight zero w p = 0
weight (suc n) w p = weight n w p + cond (p n) (w n) 0

-- what the consoles below n that are in the set q weigh: bits at n and above do not count
abbrev pub weigh : ℕ → (ℕ → ℕ) → ℕ → ℕ
weigh n w q = weight n w (in_set q)

-- what all consoles below n weigh
abbrev pub total : ℕ → (ℕ → ℕ) → ℕ
total n w = weight n w (λ _. true)

-- how much of a whole may be unsound: less than a third of it
abbrev pub spare : ℕ → ℕ
spare whole = (whole - 1) / 3

-- the quorum rule: a part is a quorum of the whole when it lacks no more than the whole can spare
abbrev pub enough : ℕ → ℕ → Bool
enough whole part = nat_le (whole - spare whole) part

-- the set q is a quorum by weight
abbrev pub is_weighty : ℕ → (ℕ → ℕ) → ℕ → Bool
is_weighty n w q = enough (total n w) (weigh n w q)

-- the set q, of consoles below n, is a quorum by count
abbrev pub is_quorum : ℕ → ℕ → Bool
is_quorum n q = enough n (count_ones q)

-- every console weighs the same: counting is weighing with these weights
abbrev pub alike : ℕ → ℕ
alike _ = 1

-- the unsound consoles below n weigh no more than the whole can spare
abbrev pub Light : ℕ → (ℕ → ℕ) → (ℕ → Bool) → Type 0
Light n w sound = weight n w (λ i. not (sound i)) ≤ spare (total n w)

-- no more consoles below n are unsound than n can spare
abbrev pub Few : ℕ → (ℕ → Bool) → Type 0
Few n sound = weight n alike (λ i. not (sound i)) ≤ spare n

-- a sound console below n is in both sets
abbrev pub Shared : ℕ → (ℕ → Bool) → ℕ → ℕ → Type 0
Shared n sound q r = (i : ℕ) × (i < n) × T (sound i) × Holds q i × Holds r i

-- The quorum law: two quorums share a sound console, where the unsound ones are light.
abbrev pub QuorumsShare : Type 0
QuorumsShare = (n : ℕ) (w : ℕ → ℕ) (sound : ℕ → Bool) → 1 ≤ total n w → Light n w sound
    → (q r : ℕ) → T (is_weighty n w q) → T (is_weighty n w r) → Shared n sound q r

-- A set that holds every sound console is a quorum.
abbrev pub SoundSuffice : Type 0
SoundSuffice = (n : ℕ) (w : ℕ → ℕ) (sound : ℕ → Bool) → Light n w sound
    → (q : ℕ) → ((i : ℕ) → i < n → T (sound i) → Holds q i) → T (is_weighty n w q)

-- Counting is weighing with weights of 1: of a set of consoles below n, and of the bits below n of any set.
pub record Counting : Type 0 where
  pub counts : (n q : ℕ) → q < 2 ^ n → weigh n alike q ≡ count_ones q
  pub cuts : (n q : ℕ) → weigh n alike q ≡ count_ones (q % 2 ^ n)
  pub whole : (n : ℕ) → total n alike ≡ n
  pub quorum : (n q : ℕ) → q < 2 ^ n → is_quorum n q ≡ is_weighty n alike q

-- The quorum law and its companion for sets that are counted.
pub record Counted : Type 0 where
  pub share : (n : ℕ) (sound : ℕ → Bool) → 1 ≤ n → Few n sound
      → (q r : ℕ) → q < 2 ^ n → r < 2 ^ n → T (is_quorum n q) → T (is_quorum n r) → Shared n sound q r
  pub suffice : (n : ℕ) (sound : ℕ → Bool) → Few n sound
      → (q : ℕ) → q < 2 ^ n → ((i : ℕ) → i < n → T (sound i) → Holds q i) → T (is_quorum n q)
