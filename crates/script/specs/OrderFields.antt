-- Orders as fields: a word, the numbers that go with it, and a comma at the last one's end where another order follows.
use Rattle.std.specs.Prelude.{◌≡◌, ℕ, ◌-◌, ◌≤◌, Bool, true, false, cond, not, List, [], ◌∷◌, length, take, codes, MatchBool, ◌==◌, slice_index}
use Rattle.std.specs.Str.{bytes_eq}
use Rattle.text.specs.Decimal.{Numeral, value}
use Rattle.text.specs.Splitting.{none_left}
use Rattle.wire.specs.declared.order.Order.{Order}
use Rattle.wire.specs.declared.order.Order.TheVariants.{Send, Release, Load}
use Rattle.script.specs.Arguments.{HasShort}
use Rattle.script.specs.declared.marked.Marked.{Marked}

-- the field's last byte is a comma
abbrev pub ends_in_comma : List ℕ → Bool
ends_in_comma field = slice_index field (length field - 1) == 44

abbrev pub without_comma : List ℕ → List ℕ
without_comma field = cond (ends_in_comma field) (take (length field - 1) field) field

-- a value, and whether another order follows
abbrev pub marked : {A : Type 0} → A → Bool → Marked A
marked value more = record { value = value; more = more }

-- the first field, but for a comma at its end, is a numeral of two bytes; another order follows if the comma is there
pub record HasLast (before : List (List ℕ)) (p : Marked ℕ) (after : List (List ℕ)) : Type 0 where
  pub field : List ℕ
  pub first : before ≡ field ∷ after
  pub numeral : Numeral (without_comma field)
  pub denotes : value (without_comma field) ≡ p.value
  pub within : p.value ≤ 65535
  pub more : p.more ≡ ends_in_comma field

-- the fields after `SD`: truck, place; the order goes with whether another one follows
abbrev pub HasSend : List (List ℕ) → Marked Order → List (List ℕ) → Type 0
HasSend before p after =
    (truck : ℕ) × (place : ℕ) × (rest : List (List ℕ)) × (p.value ≡ Send truck place) × HasShort before truck rest × HasLast rest (marked place p.more) after

-- the field after `RL`: truck
abbrev pub HasRelease : List (List ℕ) → Marked Order → List (List ℕ) → Type 0
HasRelease before p after = (truck : ℕ) × (p.value ≡ Release truck) × HasLast before (marked truck p.more) after

-- the fields after `LD`: truck, place, amount
abbrev pub HasLoad : List (List ℕ) → Marked Order → List (List ℕ) → Type 0
HasLoad before p after =
    (truck : ℕ) × (place : ℕ) × (amount : ℕ) × (rest : List (List ℕ)) × (last : List (List ℕ)) ×
    (p.value ≡ Load truck place amount) × HasShort before truck rest × HasShort rest place last × HasLast last (marked amount p.more) after

-- the fields begin with an order
abbrev pub HasOrder : List (List ℕ) → Marked Order → List (List ℕ) → Type 0
HasOrder [] p after = ⊥
HasOrder (word ∷ fields) p after =
    MatchBool (bytes_eq word (codes "SD")) (HasSend fields p after)
    (MatchBool (bytes_eq word (codes "RL")) (HasRelease fields p after)
    (MatchBool (bytes_eq word (codes "LD")) (HasLoad fields p after)
    ⊥))

-- the fields are these orders and nothing more, where it is known whether one is due
abbrev pub OrdersDue : Bool → List (List ℕ) → List Order → Type 0
OrdersDue true before [] = ⊥
OrdersDue true before (o ∷ os) = (more : Bool) × (after : List (List ℕ)) × HasOrder before (marked o more) after × OrdersDue more after os
OrdersDue false before [] = before ≡ []
OrdersDue false before (o ∷ os) = ⊥

-- orders up to the end of the line, or none
abbrev pub HasOrders : List (List ℕ) → List Order → Type 0
HasOrders fields os = OrdersDue (not (none_left fields)) fields os
