-- Fields that are taken one after another.
use Rattle.std.proofs.Common.{◌≡◌, ℕ, Bool, true, false, not, List, [], ◌∷◌, ◌++◌, codes, MatchBool, sym, ◌∙◌, subst, append_assoc, append-nil}
use Rattle.std.specs.Str.{bytes_eq}
use Rattle.text.specs.Splitting.{none_left, Leaves}
use Rattle.text.specs.declared.fields.FieldError.{FieldError}
use Rattle.wire.specs.declared.order.Order.{Order}
use Rattle.script.specs.Arguments.{HasNumber, HasShort, Possible}
use Rattle.script.specs.OrderFields.{HasLast, HasSend, HasRelease, HasLoad, HasOrder, HasOrders, OrdersDue, marked}
use Rattle.script.specs.declared.marked.Marked.{Marked}
use Rattle.script.specs.declared.command.NewBoard.TheVariants.{Tonnage}
use Rattle.script.specs.Boards.{HasAssignment, HasBoard}
use Rattle.script.proofs.Sequence.{not_ended}
use Rattle.script.specs.declared.command.NewBoard.{NewBoard}

-- what a number leaves does not depend on how it is read
pub same_rest : {highest m n : ℕ} {before mid rest : List (List ℕ)} → HasNumber highest before m mid → HasNumber highest before n rest → rest ≡ mid
same_rest a b = let x = a.first in let y = b.first in cc

pub same_number : {highest m n : ℕ} {before mid rest : List (List ℕ)} → HasNumber highest before m mid → HasNumber highest before n rest → m ≡ n
same_number a b = let x = a.first in let y = b.first in let p = a.denotes in let q = b.denotes in cc

-- how an order's last number is read does not depend on who reads it
same_last : {p q : Marked ℕ} {before after rest : List (List ℕ)} → HasLast before p after → HasLast before q rest → (p.value ≡ q.value) × (p.more ≡ q.more) × (after ≡ rest)
same_last a b =
    let x = a.first in let y = b.first in let p = a.denotes in let q = b.denotes in let m = a.more in let n = b.more in
    (cc, cc, cc)

-- two readings of an order are one
same_send : (p q : Marked Order) (before after rest : List (List ℕ)) → HasSend before p after → HasSend before q rest → (p.value ≡ q.value) × (p.more ≡ q.more) × (after ≡ rest)
same_send p q before after rest a b =
    let mid = same_rest b.4 a.4 in
    let truck = same_number b.4 a.4 in
    let end = same_last (subst (λ (l : List (List ℕ)). HasLast l (marked a.1 p.more) after) mid a.5) b.5 in
    let x = a.3 in let y = b.3 in let place = end.0 in
    (cc, end.1, end.2)

same_release : {p q : Marked Order} {before after rest : List (List ℕ)} → HasRelease before p after → HasRelease before q rest → (p.value ≡ q.value) × (p.more ≡ q.more) × (after ≡ rest)
same_release a b =
    let end = same_last a.2 b.2 in
    let x = a.1 in let y = b.1 in let truck = end.0 in
    (cc, end.1, end.2)

same_load : (p q : Marked Order) (before after rest : List (List ℕ)) → HasLoad before p after → HasLoad before q rest → (p.value ≡ q.value) × (p.more ≡ q.more) × (after ≡ rest)
same_load p q before after rest a b =
    let mid = same_rest b.6 a.6 in
    let truck = same_number b.6 a.6 in
    let second = subst (λ (l : List (List ℕ)). HasShort l a.1 a.4) mid a.7 in
    let late = same_rest b.7 second in
    let place = same_number b.7 second in
    let end = same_last (subst (λ (l : List (List ℕ)). HasLast l (marked a.2 p.more) after) late a.8) b.8 in
    let x = a.5 in let y = b.5 in let amount = end.0 in
    (cc, end.1, end.2)

same_by : (s r l : Bool) (p q : Marked Order) (fields after rest : List (List ℕ)) →
    MatchBool s (HasSend fields p after) (MatchBool r (HasRelease fields p after) (MatchBool l (HasLoad fields p after) ⊥)) →
    MatchBool s (HasSend fields q rest) (MatchBool r (HasRelease fields q rest) (MatchBool l (HasLoad fields q rest) ⊥)) →
    (p.value ≡ q.value) × (p.more ≡ q.more) × (after ≡ rest)
same_by true r l p q fields after rest a b = same_send p q fields after rest a b
same_by false true l p q fields after rest a b = same_release a b
same_by false false true p q fields after rest a b = same_load p q fields after rest a b
same_by false false false p q fields after rest a b = absurd a

pub same_order : (before : List (List ℕ)) (p q : Marked Order) (after rest : List (List ℕ)) → HasOrder before p after → HasOrder before q rest → (p.value ≡ q.value) × (p.more ≡ q.more) × (after ≡ rest)
same_order [] p q after rest a b = absurd a
same_order (word ∷ fields) p q after rest a b = same_by (bytes_eq word (codes "SD")) (bytes_eq word (codes "RL")) (bytes_eq word (codes "LD")) p q fields after rest a b

-- these orders were taken from the fields, and whether one is due on the rest
pub record Taken (due : Bool) (fields : List (List ℕ)) (vs : List Order) (more : Bool) (rest : List (List ℕ)) : Type 0 where
  pub on : (os : List Order) → OrdersDue more rest os → OrdersDue due fields (vs ++ os)
  pub back : (os : List Order) → OrdersDue due fields os → (ws : List Order) × OrdersDue more rest ws

back_more : (rest : List (List ℕ)) (o : Order) (m : Bool) (after : List (List ℕ)) → HasOrder rest (marked o m) after → (ws : List Order) → OrdersDue true rest ws → (os : List Order) × OrdersDue m after os
back_more rest o m after took [] said = absurd said
back_more rest o m after took (w ∷ ws) said =
    let same = same_order rest (marked w said.0) (marked o m) said.1 after said.2 took in
    (ws, subst (λ (b : Bool). OrdersDue b after ws) same.1 (subst (λ (l : List (List ℕ)). OrdersDue said.0 l ws) same.2 said.3))

-- one order more
pub taken_more : (due : Bool) (fields : List (List ℕ)) (vs : List Order) (rest : List (List ℕ)) (o : Order) (m : Bool) (after : List (List ℕ)) → Taken due fields vs true rest → HasOrder rest (marked o m) after → Taken due fields (vs ++ o ∷ []) m after
taken_more due fields vs rest o m after so took =
    record {
      on = λ os said. subst (λ (l : List Order). OrdersDue due fields l) (sym (append_assoc vs (o ∷ []) os)) (so.on (o ∷ os) (m, after, took, said));
      back = λ os said. let was = so.back os said in back_more rest o m after took was.0 was.1;
    }

-- The reader's loop: whether an order is due on the rest is a value that it holds.
module _ (empty : Bool) (fields : List (List ℕ)) (vs : List Order) (more : Bool) (rest : List (List ℕ)) (so : Taken (not empty) fields vs more rest) where
  pub orders_more : (o : Order) (m : Bool) (after : List (List ℕ)) (ws : List Order) → more ≡ true → HasOrder rest (marked o m) after → ws ≡ vs ++ o ∷ [] → Taken (not empty) fields ws m after
  orders_more o m after ws due took pushed =
      subst (λ (l : List Order). Taken (not empty) fields l m after) (sym pushed)
      (taken_more (not empty) fields vs rest o m after (subst (λ (b : Bool). Taken (not empty) fields vs b rest) due so) took)

  pub orders_all : empty ≡ none_left fields → more ≡ false → rest ≡ [] → HasOrders fields vs
  orders_all e done end =
      subst (λ (b : Bool). OrdersDue (not b) fields vs) e
      (subst (λ (l : List Order). OrdersDue (not empty) fields l) (append-nil vs) ((subst (λ (b : Bool). Taken (not empty) fields vs b rest) done so).on [] end))

  back_to : empty ≡ none_left fields → (os : List Order) → HasOrders fields os → (ws : List Order) × OrdersDue more rest ws
  back_to e os said = so.back os (subst (λ (b : Bool). OrdersDue (not b) fields os) (sym e) said)

  none_due : (ws : List Order) → (Possible HasOrder rest → ⊥) → OrdersDue true rest ws → ⊥
  none_due [] none said = said
  none_due (w ∷ ws) none said = none (marked w said.0, said.1, said.2)

  -- where an order is due and none is there, the fields are no orders
  pub orders_fault : empty ≡ none_left fields → more ≡ true → (Possible HasOrder rest → ⊥) → (os : List Order) → HasOrders fields os → ⊥
  orders_fault e due none os said =
      let was = back_to e os said in
      none_due was.0 none (subst (λ (b : Bool). OrdersDue b rest was.0) due was.1)

  end_due : (ws : List Order) → OrdersDue false rest ws → rest ≡ []
  end_due [] said = said
  end_due (w ∷ ws) said = absurd said

  -- nor where none is due and fields are left
  pub orders_left : (f : FieldError) → empty ≡ none_left fields → more ≡ false → Leaves rest f → (os : List Order) → HasOrders fields os → ⊥
  orders_left f e done left os said =
      let was = back_to e os said in
      not_ended f left (end_due was.0 (subst (λ (b : Bool). OrdersDue b rest was.0) done was.1))

rest_by : (a t : Bool) (b d : NewBoard) (fields after rest : List (List ℕ)) →
    MatchBool a (HasAssignment fields b after) (MatchBool t ((b ≡ Tonnage) × (fields ≡ after)) ⊥) →
    MatchBool a (HasAssignment fields d rest) (MatchBool t ((d ≡ Tonnage) × (fields ≡ rest)) ⊥) → after ≡ rest
rest_by true t b d fields after rest x y =
    let mid = same_rest y.4 x.4 in
    same_rest y.5 (subst (λ (l : List (List ℕ)). HasShort l x.1 after) mid x.5)
rest_by false true b d fields after rest x y = sym x.1 ∙ y.1
rest_by false false b d fields after rest x y = absurd x

-- what a board leaves does not depend on how it is read
pub same_board : (before : List (List ℕ)) (b d : NewBoard) (after rest : List (List ℕ)) → HasBoard before b after → HasBoard before d rest → after ≡ rest
same_board [] b d after rest x y = absurd x
same_board (word ∷ fields) b d after rest x y = rest_by (bytes_eq word (codes "assignment")) (bytes_eq word (codes "tonnage")) b d fields after rest x y
