-- The block shelf: slots that are empty or hold a block, and what is asked of them.
use Rattle.std.specs.Prelude.{◌≡◌, ℕ, Bool, cond, List, [], ◌∷◌, is_some, Some, None, Option, nat_lt, slice_index_or}
use Rattle.shelf.specs.Slots.{lowest, find, shown, vacant, placed}
use Rattle.wire.specs.Format.{same_key}
use Rattle.wire.specs.declared.key.Key.{Key}
use Rattle.rules.specs.declared.block.Block.{Block}

abbrev pub Slot : Type 0
Slot = Option Block

-- Blocks are told apart by view and name.
abbrev pub block_key : Block → Key
block_key b = record { view = b.body.view; name = b.name }

-- The key that a slot shows: its block's, or none if it is empty.
abbrev pub slot_key : Slot → Option Key
slot_key s = shown block_key s

-- The block stands in some slot.
abbrev pub On : Block → List Slot → Type 0
On b xs = (i : ℕ) × (slice_index_or xs i None ≡ Some b)

-- Does some slot pass the test?
abbrev pub some_slot : (Slot → Bool) → List Slot → Bool
some_slot test xs = is_some (lowest test xs)

-- The lowest slot that has the key.
abbrev pub where_held : Key → List Slot → Option ℕ
where_held k xs = find same_key slot_key k xs

abbrev pub slot_at : Option ℕ → List Slot → Slot
slot_at None xs = None
slot_at (Some i) xs = slice_index_or xs i None

-- The block held under a key.
abbrev pub held : Key → List Slot → Slot
held k xs = slot_at (where_held k xs) xs

abbrev pub is_held : Key → List Slot → Bool
is_held k xs = is_some (where_held k xs)

abbrev pub has_room : List Slot → Bool
has_room xs = is_some (vacant slot_key xs)

-- A block goes into the lowest empty slot; a full shelf stays as it is.
abbrev pub put : Block → List Slot → List Slot
put b xs = placed (vacant slot_key xs) (Some b) xs

-- The slots of view up to v are emptied.
abbrev pub kept_above : ℕ → Slot → Slot
kept_above v None = None
kept_above v (Some b) = cond (nat_lt v b.body.view) (Some b) None

unfoldable pub swept : ℕ → List Slot → List Slot
swept v [] = []
swept v (x ∷ xs) = kept_above v x ∷ swept v xs
