-- Votes for blocks, certificates, final blocks and chains, with nothing said of how a console comes to its votes.
use Rattle.std.specs.Prelude.{◌≡◌, ℕ, suc, ◌^◌, ◌<◌, ◌≤◌, Bool, T, ◌⊎◌, List, [], ◌∷◌, ◌++◌}
use Rattle.std.specs.List.{AllByRecursion}
use Rattle.votes.specs.Quorum.{Holds, Shared, is_quorum, is_weighty}

-- Blocks as votes see them: a body has a key and names its parent by key, and a key has a view.
-- The first block's parent is the origin.
pub record Blocks : Type 1 where
  pub Body : Type 0
  pub Key : Type 0
  pub view : Key → ℕ
  pub key : Body → Key
  pub parent : Body → Key
  pub origin : Key

-- The consoles: how many there are, which are sound, and which sets of them are quorums.
pub record Consoles : Type 0 where
  pub size : ℕ
  pub sound : ℕ → Bool
  pub quorum : ℕ → Bool

-- n consoles whose votes count alike
abbrev pub counted_consoles : ℕ → (ℕ → Bool) → Consoles
counted_consoles n sound = record { size = n; sound = sound; quorum = is_quorum n }

-- n consoles whose votes have weights
abbrev pub weighed_consoles : ℕ → (ℕ → ℕ) → (ℕ → Bool) → Consoles
weighed_consoles n w sound = record { size = n; sound = sound; quorum = is_weighty n w }

-- What has happened so far: the bodies that each console has voted for, newest first, and the bodies that were shown.
pub record History (B : Blocks) : Type 0 where
  pub votes : ℕ → List B.Body
  pub shown : List B.Body

-- the view of a body
abbrev pub own_view : (B : Blocks) → B.Body → ℕ
own_view B b = B.view (B.key b)

-- the view of its parent
abbrev pub parent_view : (B : Blocks) → B.Body → ℕ
parent_view B b = B.view (B.parent b)

-- x is one of the list
abbrev pub Among : {X : Type 0} → X → List X → Type 0
Among x [] = ⊥
Among x (y ∷ ys) = (x ≡ y) ⊎ Among x ys

-- console i is one of the sound ones
abbrev pub Sound : Consoles → ℕ → Type 0
Sound c i = (i < c.size) × T (c.sound i)

-- console i has voted for a body with the key k
abbrev pub Voted : (B : Blocks) → History B → ℕ → B.Key → Type 0
Voted B h i k = (b : B.Body) × Among b (h.votes i) × (B.key b ≡ k)

-- A key is certified when each sound console of some quorum has voted for it.
pub record Certified (B : Blocks) (c : Consoles) (h : History B) (k : B.Key) : Type 0 where
  pub signers : ℕ
  pub within : signers < 2 ^ c.size
  pub quorum : T (c.quorum signers)
  pub voted : (i : ℕ) → Sound c i → Holds signers i → Voted B h i k

-- a key that may be built on
abbrev pub Backed : (B : Blocks) → Consoles → History B → B.Key → Type 0
Backed B c h k = (k ≡ B.origin) ⊎ Certified B c h k

-- A key is final when it is certified and has a certified child of the next view.
pub record Final (B : Blocks) (c : Consoles) (h : History B) (k : B.Key) : Type 0 where
  pub certified : Certified B c h k
  pub child : B.Body
  pub shown : Among child h.shown
  pub upon : B.parent child ≡ k
  pub next : own_view B child ≡ suc (B.view k)
  pub follows : Certified B c h (B.key child)

-- Votes, newest first, in strictly rising views and with parents' views that never fall.
abbrev pub Rising : (B : Blocks) → List B.Body → Type 0
Rising B [] = Unit {0}
Rising B (b ∷ bs) = AllByRecursion (λ a. (own_view B a < own_view B b) × (parent_view B a ≤ parent_view B b)) bs × Rising B bs

-- the view of the last vote: 0 before the first
abbrev pub last_view : (B : Blocks) → List B.Body → ℕ
last_view B [] = 0
last_view B (b ∷ bs) = own_view B b

-- the view of the last vote's parent: 0 before the first vote
abbrev pub last_lock : (B : Blocks) → List B.Body → ℕ
last_lock B [] = 0
last_lock B (b ∷ bs) = parent_view B b

-- ---- what is asked of a history, premise by premise

-- two quorums share a sound console
abbrev pub QuorumsMeet : Consoles → Type 0
QuorumsMeet c = (q r : ℕ) → q < 2 ^ c.size → r < 2 ^ c.size → T (c.quorum q) → T (c.quorum r) → Shared c.size c.sound q r

-- a sound console's votes rise
abbrev pub VotesRise : (B : Blocks) → Consoles → History B → Type 0
VotesRise B c h = (i : ℕ) → Sound c i → Rising B (h.votes i)

-- a sound console votes only for what was shown
abbrev pub VotesShown : (B : Blocks) → Consoles → History B → Type 0
VotesShown B c h = (i : ℕ) → Sound c i → (b : B.Body) → Among b (h.votes i) → Among b h.shown

-- a sound console votes only for a body whose parent is the origin or certified
abbrev pub VotesBacked : (B : Blocks) → Consoles → History B → Type 0
VotesBacked B c h = (i : ℕ) → Sound c i → (b : B.Body) → Among b (h.votes i) → Backed B c h (B.parent b)

-- a body's view is above its parent's
abbrev pub ViewsDescend : (B : Blocks) → History B → Type 0
ViewsDescend B h = (b : B.Body) → Among b h.shown → parent_view B b < own_view B b

-- two bodies that were shown and have one key are one body
abbrev pub KeysApart : (B : Blocks) → History B → Type 0
KeysApart B h = (a b : B.Body) → Among a h.shown → Among b h.shown → B.key a ≡ B.key b → a ≡ b

-- all of them together, and the origin's view is 0
pub record Lawful (B : Blocks) (c : Consoles) (h : History B) : Type 0 where
  pub meet : QuorumsMeet c
  pub rise : VotesRise B c h
  pub known : VotesShown B c h
  pub backed : VotesBacked B c h
  pub descend : ViewsDescend B h
  pub apart : KeysApart B h
  pub start : B.view B.origin ≡ 0

-- ---- chains

-- bodies, oldest first, that lead from the key j to the key k: each one's parent is the one before it
abbrev pub Chain : (B : Blocks) → History B → B.Key → List B.Body → B.Key → Type 0
Chain B h j [] k = j ≡ k
Chain B h j (b ∷ bs) k = (B.parent b ≡ j) × Among b h.shown × Chain B h (B.key b) bs k

-- the block with the key j is on the line of ancestors of the block with the key k
abbrev pub Ancestor : (B : Blocks) → History B → B.Key → B.Key → Type 0
Ancestor B h j k = (bodies : List B.Body) × Chain B h j bodies k

-- A chain from the origin to a head that is final, or is the origin itself.
pub record Settled (B : Blocks) (c : Consoles) (h : History B) (head : B.Key) (bodies : List B.Body) : Type 0 where
  pub line : Chain B h B.origin bodies head
  pub final : (head ≡ B.origin) ⊎ Final B c h head

-- ys begins with xs
abbrev pub Prefix : {X : Type 0} → List X → List X → Type 0
Prefix {X} xs ys = (rest : List X) × (ys ≡ xs ++ rest)

-- Chains never part: of two settled chains of one lawful history, one begins with the other.
abbrev pub Agreement : Blocks → Type 0
Agreement B = (c : Consoles) (h : History B) → Lawful B c h
    → (j k : B.Key) (xs ys : List B.Body) → Settled B c h j xs → Settled B c h k ys → Prefix xs ys ⊎ Prefix ys xs

-- A final key is an ancestor of every certified key that is no older, and two certified keys of one view are one key.
pub record Ancestry (B : Blocks) : Type 0 where
  pub ancestor : (c : Consoles) (h : History B) → Lawful B c h
      → (j k : B.Key) → Final B c h j → Certified B c h k → B.view j ≤ B.view k → Ancestor B h j k
  pub single : (c : Consoles) (h : History B) → Lawful B c h
      → (j k : B.Key) → Certified B c h j → Certified B c h k → B.view j ≡ B.view k → j ≡ k

-- ---- growth

-- h holds all that g holds
pub record Grows (B : Blocks) (g h : History B) : Type 0 where
  pub votes : (i : ℕ) (b : B.Body) → Among b (g.votes i) → Among b (h.votes i)
  pub shown : (b : B.Body) → Among b g.shown → Among b h.shown

-- What is certified, final or a chain stays so as a history grows.
pub record Lasting (B : Blocks) : Type 0 where
  pub certified : (c : Consoles) (g h : History B) → Grows B g h → (k : B.Key) → Certified B c g k → Certified B c h k
  pub final : (c : Consoles) (g h : History B) → Grows B g h → (k : B.Key) → Final B c g k → Final B c h k
  pub settled : (c : Consoles) (g h : History B) → Grows B g h
      → (k : B.Key) (xs : List B.Body) → Settled B c g k xs → Settled B c h k xs
