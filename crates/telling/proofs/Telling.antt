-- Text that grows by one item a turn.
use Rattle.std.proofs.Common.{◌≡◌, ℕ, suc, ◌+◌, ◌-◌, ◌<◌, ◌≤◌, Bool, List, [], ◌∷◌, ◌++◌, length, get_or, drop, sym, refl, ap, ◌∙◌, subst, append_assoc, append-nil, arith}
use Rattle.std.proofs.lemmas.List.{at_drop_all, at_drop_more}
use Rattle.wire.specs.declared.order.Order.{Order}
use Rattle.boards.specs.declared.tonnage.place.Place.{Place}
use Rattle.telling.specs.Shown.{place_told, places_up_to}
use Rattle.telling.specs.Tries.{effect_told, effects_told}

places_suc : (n : ℕ) (places : List Place) → places_up_to (suc n) places ≡ places_up_to n places ++ place_told places (suc n)
unfolding places_up_to
places_suc n places = refl

places_next : (n m : ℕ) (places : List Place) → m ≡ suc n → places_up_to m places ≡ places_up_to n places ++ place_told places m
places_next n m places e = subst (λ (k : ℕ). places_up_to k places ≡ places_up_to n places ++ place_told places k) (sym e) (places_suc n places)

pub places_zero : (places : List Place) → places_up_to 0 places ≡ []
unfolding places_up_to
places_zero places = refl

-- one place more
pub places_more : (n k : ℕ) (places : List Place) → 1 ≤ n → k ≡ n → places_up_to (n - 1) places ++ place_told places n ≡ places_up_to k places
places_more n k places some e = let next = places_next (n - 1) n places (omega arith) in cc

module _ {W : Type 0} (rule : W → Order → W) (effect : W → Order → Bool) where
  effects-one : (w : W) (o : Order) (os : List Order) → effects_told rule effect w (o ∷ os) ≡ effect_told (effect w o) ++ effects_told rule effect (rule w o) os
  unfolding effects_told
  effects-one w o os = refl

  effects-none : (w : W) → effects_told rule effect w [] ≡ []
  unfolding effects_told
  effects-none w = refl

  -- the rest of the orders, one fewer
  pub effect-more : (w v : W) (was now all : List ℕ) (os : List Order) (i : ℕ) (o : Order) (e : Bool) → i < length os → e ≡ effect w (get_or os i o) → v ≡ rule w (get_or os i o) → now ≡ was ++ effect_told e → was ++ effects_told rule effect w (drop i os) ≡ all → now ++ effects_told rule effect v (drop (i + 1) os) ≡ all
  effect-more w v was now all os i o e below told moved added before =
      let d = at_drop_more (effects_told rule effect w) os i o below in
      let one = effects-one w (get_or os i o) (drop (i + 1) os) in
      let said = subst (λ (b : Bool). now ≡ was ++ effect_told b) told added in
      let a = append_assoc was (effect_told (effect w (get_or os i o))) (effects_told rule effect (rule w (get_or os i o)) (drop (i + 1) os)) in
      rw (said, moved) (a ∙ sym (ap (λ (l : List ℕ). was ++ l) (d ∙ one)) ∙ before)

  pub effects-all : (w : W) (now all : List ℕ) (os : List Order) (i : ℕ) → length os ≤ i → now ++ effects_told rule effect w (drop i os) ≡ all → now ≡ all
  effects-all w now all os i past before =
      let d = at_drop_all (effects_told rule effect w) os i past in
      let e = effects-none w in
      let a = append-nil now in
      cc
