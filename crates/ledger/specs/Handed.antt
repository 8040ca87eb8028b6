-- What settling does on its way.
use Rattle.std.specs.Prelude.{◌≡◌, ℕ, ◌+◌, Bool, false, cond, ◌&&◌, List, Some, None, ◌==◌, nat_lt}
use Rattle.rules.specs.Blocks.{Slot, kept_above}
use Rattle.rules.specs.Settle.{certified}
use Rattle.wire.specs.declared.key.Key.{Key}

-- The slot's block is certified and comes right after a parent above the head. While no slot has such a block,
-- nothing can be handed over.
abbrev pub awaits : ℕ → List Slot → Key → Slot → Bool
awaits n xs head None = false
awaits n xs head (Some c) =
    nat_lt head.view c.body.parent.view
    && (c.body.view == c.body.parent.view + 1 && certified n xs c)

-- `r` says whether the slot has to be emptied by a sweep up to view v.
abbrev pub Emptied : Bool → ℕ → Slot → Type 0
Emptied r v slot = cond r None slot ≡ kept_above v slot
