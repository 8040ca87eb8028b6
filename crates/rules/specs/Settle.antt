-- Votes, certificates and handing over, on the ledger alone.
use Rattle.std.specs.Prelude.{ℕ, zero, suc, ◌+◌, ◌^◌, Bool, false, cond, not, ◌&&◌, ◌||◌, List, [], ◌∷◌, ◌++◌, length, Some, None, Option, ◌==◌, bit_or, nat_lt, slice_index_or, slice_set}
use Rattle.votes.specs.Quorum.{is_quorum}
use Rattle.wire.specs.Format.{signed, no_signers}
use Rattle.wire.specs.Format.{same_key}
use Rattle.wire.specs.declared.key.Key.{Key}
use Rattle.wire.specs.declared.body.Body.{Body}
use Rattle.wire.specs.declared.certificate.Certificate.{Certificate}
use Rattle.wire.specs.declared.certificate.Signers.{Signers}
use Rattle.rules.specs.declared.block.Block.{Block}
use Rattle.rules.specs.Blocks.{Slot, block_key, some_slot, where_held, held, put, swept}
use Rattle.rules.specs.State.{Ledger}

-- A new block has an empty tally.
abbrev pub fresh : Body → List ℕ → Block
fresh body name = record { body = body; name = name; tally = no_signers }

abbrev pub placed : Block → Ledger → Ledger
placed b g = record { shelf = put b g.shelf; top = g.top; head = g.head; count = g.count }

-- The certificate of higher view is kept; of equals the older one.
abbrev pub higher_certificate : Certificate → Certificate → Certificate
higher_certificate top new = cond (nat_lt top.block.view new.block.view) new top

abbrev pub with_top : Certificate → Ledger → Ledger
with_top c g =
    record { shelf = g.shelf; top = higher_certificate g.top c; head = g.head; count = g.count }

-- A voter joins a tally once, with the first seal that came.
abbrev pub joined : ℕ → List ℕ → Signers → Signers
joined voter seal t =
    cond (signed t.set voter) t (record { set = bit_or t.set (2 ^ voter); seals = slice_set t.seals voter seal })

abbrev pub with_tally : Block → Signers → Block
with_tally b t = record { body = b.body; name = b.name; tally = t }

-- Does this vote bring the tally from no quorum to a quorum?
abbrev pub completes : ℕ → Signers → Signers → Bool
completes n before after = not (is_quorum n before.set) && is_quorum n after.set

-- The top certificate after a tally went from `before` to `after`: that block with these signers, if this
-- first gave it a quorum and its view is above the top's.
abbrev pub top_after : ℕ → Certificate → Key → Signers → Signers → Certificate
top_after n top k before after =
    cond (completes n before after) (higher_certificate top (record { block = k; signers = after })) top

-- A vote enters the tally of the block in slot i.
unfoldable pub enter_slot : ℕ → ℕ → List ℕ → ℕ → Slot → Ledger → Ledger
enter_slot n voter seal i None g = g
enter_slot n voter seal i (Some b) g =
    let after : Signers = joined voter seal b.tally in
    record {
      shelf = slice_set g.shelf i (Some (with_tally b after));
      top = top_after n g.top (block_key b) b.tally after;
      head = g.head;
      count = g.count;
    }

abbrev pub enter_at : ℕ → ℕ → List ℕ → Option ℕ → Ledger → Ledger
enter_at n voter seal None g = g
enter_at n voter seal (Some i) g = enter_slot n voter seal i (slice_index_or g.shelf i None) g

-- A vote for a held block enters its tally.
unfoldable pub enter : ℕ → Key → ℕ → List ℕ → Ledger → Ledger
enter n k voter seal g = enter_at n voter seal (where_held k g.shelf) g

-- The slot's block names k as its parent.
abbrev pub names_parent : Key → Slot → Bool
names_parent k None = false
names_parent k (Some c) = same_key c.body.parent k

-- A held block is certified if its tally has a quorum or a held block names it as parent.
abbrev pub certified : ℕ → List Slot → Block → Bool
certified n xs b = is_quorum n b.tally.set || some_slot (names_parent (block_key b)) xs

-- The slot's block is a certified child of b, of the next view.
abbrev pub confirms : ℕ → List Slot → Block → Slot → Bool
confirms n xs b None = false
confirms n xs b (Some c) =
    same_key c.body.parent (block_key b) && (c.body.view == b.body.view + 1 && certified n xs c)

-- The held parent of b, which has to be of lower view.
abbrev pub parent_of : List Slot → Block → Slot
parent_of xs b = cond (nat_lt b.body.parent.view b.body.view) (held b.body.parent xs) None

-- The line of held parents reaches the head: some block on it names the head as its parent. Views fall along
-- a line, so that it has fewer steps than the view it starts at.
unfoldable pub reaches_within : ℕ → List Slot → Key → Block → Bool
reaches_within zero xs head b = false
reaches_within (suc steps) xs head b =
    same_key b.body.parent head
    || elim (parent_of xs b) [ None ↦ false | Some p ↦ reaches_within steps xs head p ]

abbrev pub reaches : List Slot → Key → Block → Bool
reaches xs head b = reaches_within (suc b.body.view) xs head b

-- The bodies on that line, after the head and up to b, oldest first.
unfoldable pub line_within : ℕ → List Slot → Key → Block → List Body
line_within zero xs head b = []
line_within (suc steps) xs head b =
    cond (same_key b.body.parent head)
    []
    (elim (parent_of xs b) [ None ↦ [] | Some p ↦ line_within steps xs head p ])
    ++ (b.body ∷ [])

abbrev pub line : List Slot → Key → Block → List Body
line xs head b = line_within (suc b.body.view) xs head b

-- The slot's block can be handed over.
abbrev pub ready : ℕ → List Slot → Key → Slot → Bool
ready n xs head None = false
ready n xs head (Some b) =
    nat_lt head.view b.body.view && (some_slot (confirms n xs b) xs && reaches xs head b)

-- Of two slots the one of higher view, the first on a tie.
abbrev pub higher : Slot → Slot → Slot
higher None y = y
higher (Some a) None = Some a
higher (Some a) (Some b) = cond (nat_lt a.body.view b.body.view) (Some b) (Some a)

-- Of the slots that pass the test the one of highest view, the lowest on a tie.
unfoldable pub best : (Slot → Bool) → List Slot → Slot
best p [] = None
best p (x ∷ xs) = cond (p x) (higher x (best p xs)) (best p xs)

-- A ledger after settling, and the bodies that were handed over, oldest first.
pub record Settled : Type 0 where
  pub ledger : Ledger
  pub handed : List Body

unfoldable pub settle_at : Slot → Ledger → Settled
settle_at None g = record { ledger = g; handed = [] }
settle_at (Some b) g =
    let over : List Body = line g.shelf g.head b in
    record {
      ledger =
          record {
            shelf = swept b.body.view g.shelf;
            top = g.top;
            head = block_key b;
            count = g.count + length over;
          };
      handed = over;
    }

unfoldable pub settle : ℕ → Ledger → Settled
settle n g = settle_at (best (ready n g.shelf g.head) g.shelf) g
