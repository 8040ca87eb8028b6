-- The worked examples.
use Rattle.std.specs.Prelude.{◌≡◌, ℕ, ◌-◌, true, false, [], ◌∷◌, replicate, Some, None}
use Rattle.boards.specs.Tally.{ReadOuts}
use Rattle.parts.specs.Image.{ImageExample}
use Rattle.parts.specs.declared.store.Marks.{Marks}
use Rattle.votes.specs.Quorum.{is_quorum, spare}
use Rattle.wire.specs.Format.{no_seal, origin, pack}
use Rattle.wire.specs.declared.key.Key.{Key}
use Rattle.wire_laws.specs.Examples.{Proposal165, Signers000B}
use Rattle.rules.specs.declared.block.Block.{Block}
use Rattle.rules.specs.Pit.{for_proposing, leader, view_of}
use Rattle.rules.specs.Settle.{settle}
use Rattle.rules.specs.State.{Ledger, empty_ledger}
use Rattle.rules.specs.Tick.{marks_voted, may_vote}

-- n consoles, of which f may be faulty: that many consoles are a quorum, and one fewer are none.
pub record PitOf (n f quorum : ℕ) (enough short : ℕ) : Type 0 where
  pub faulty : spare n ≡ f
  pub size : n - spare n ≡ quorum
  pub is : is_quorum n enough ≡ true
  pub is_not : is_quorum n short ≡ false

abbrev pub Quorums : Type 0
Quorums = PitOf 4 1 3 0b0111 0b0101 × PitOf 5 1 4 0b11101 0b01101 × PitOf 16 5 11 0b11111111111 0b1111111111

-- With n = 4 console 1 leads view 9. Tick 7 is view 3's vote.
abbrev pub Leaders : Type 0
Leaders = (leader 4 9 ≡ 1) × (view_of 7 ≡ 3) × (for_proposing 7 ≡ false)

-- Lock 5: parent view 4, no vote; 5, vote, lock 5; 6, vote, lock 6.
abbrev pub locked_at_5 : Marks
locked_at_5 = record { lock = 5; voted = 6; proposed = 4 }

abbrev pub Locks : Type 0
Locks =
    (may_vote locked_at_5 7 4 ≡ false)
    × (may_vote locked_at_5 7 5 ≡ true)
    × ((marks_voted locked_at_5 7 5).lock ≡ 5)
    × (may_vote locked_at_5 7 6 ≡ true)
    × ((marks_voted locked_at_5 7 6).lock ≡ 6)

-- Signers 000B are consoles 0, 1 and 3. Two orders and three signers make a proposal of 165 bytes.
abbrev pub Records : Type 0
Records = Signers000B × Proposal165

-- The store's image, and the read-out of the tonnage board.
abbrev pub Numbers : Type 0
Numbers = ImageExample × ReadOuts

-- A shelf with a block on the origin and its child, whose tally has a quorum of 4.
abbrev pub held_block : ℕ → Key → ℕ → ℕ → Block
held_block view parent name voters =
    record {
      body = record { view = view; parent = parent; orders = pack [] };
      name = replicate 32 name;
      tally = record { set = voters; seals = replicate 16 no_seal };
    }

abbrev pub shelf_of : ℕ → ℕ → Ledger
shelf_of view child_view =
    record {
      shelf =
          Some (held_block view origin 1 0)
          ∷ (Some (held_block child_view (record { view = view; name = replicate 32 1 }) 2 0b0111) ∷ replicate 6 None);
      top = (empty_ledger 8).top;
      head = origin;
      count = 0;
    }

-- Parent and child of views 3 and 4, the child certified: 3 is handed over. Views 3 and 5: it is not.
abbrev pub HandingOver : Type 0
HandingOver =
    ((settle 4 (shelf_of 3 4)).handed ≡ (held_block 3 origin 1 0).body ∷ [])
    × ((settle 4 (shelf_of 3 4)).ledger.head ≡ record { view = 3; name = replicate 32 1 })
    × ((settle 4 (shelf_of 3 4)).ledger.count ≡ 1)
    × ((settle 4 (shelf_of 3 5)).handed ≡ [])
