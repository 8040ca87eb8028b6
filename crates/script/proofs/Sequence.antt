-- Arguments that are taken one after another.
use Rattle.std.proofs.Common.{◌≡◌, ℕ, List, [], ◌∷◌, IsErrAnd, Ok, Err, Result, sym, ◌∙◌, subst, arith, MatchResult}
use Rattle.text.specs.Splitting.{Leaves}
use Rattle.text.specs.declared.fields.FieldError.{FieldError}
use Rattle.text.specs.declared.fields.FieldError.TheVariants.{Missing, Empty, TooMany}
use Rattle.script.specs.Arguments.{HasBytes, HasNumber, Possible, Then}
use Rattle.script.specs.Faults.{Refutes}
use Rattle.script.specs.declared.fault.Fault.{Fault}

-- the way out of a reader: the fault of a part rules out the whole
pub refused : {T : Type 0} (P : T → Type 0) (Q : Type 0) (e : Fault) (r : Result T Fault) → IsErrAnd r (λ y. y ≡ e) → Refutes e Q → MatchResult r P (λ y. Refutes y Q)
refused P Q e (Ok x) by never = absurd by
refused P Q e (Err y) by never = subst (λ (f : Fault). Refutes f Q) (sym by) never

-- what is left after an argument does not depend on how it is read
pub record Single {A : Type 0} (Has : List (List ℕ) → A → List (List ℕ) → Type 0) : Type 0 where
  pub same : (before : List (List ℕ)) (a b : A) (after rest : List (List ℕ)) → Has before a after → Has before b rest → rest ≡ after

same_tail : {f g : List ℕ} {before after rest : List (List ℕ)} → before ≡ f ∷ after → before ≡ g ∷ rest → rest ≡ after
same_tail a b = cc

pub single_number : {highest : ℕ} → Single (HasNumber highest)
single_number = record { same = λ before a b after rest x y. same_tail x.first y.first }

pub single_bytes : Single HasBytes
single_bytes = record { same = λ before a b after rest x y. same_tail x.1 y.1 }

module _ {A : Type 0} {Has : List (List ℕ) → A → List (List ℕ) → Type 0} {On : A → List (List ℕ) → Type 0} {before : List (List ℕ)} where
  pub taken : (a : A) (after : List (List ℕ)) → Has before a after → On a after → Then Has On before
  taken a after here on = record { value = a; after = after; taken = here; on = on }

  -- where the first argument is not there
  pub not_first : (Possible Has before → ⊥) → Then Has On before → ⊥
  not_first never said = never (said.value, said.after, said.taken)

  -- where what follows it cannot be said
  pub not_later : Single Has → (a : A) (after : List (List ℕ)) → Has before a after → ((b : A) → On b after → ⊥) → Then Has On before → ⊥
  not_later single a after here never said =
      never said.value (subst (λ (l : List (List ℕ)). On said.value l) (single.same before a said.value after said.after here said.taken) said.on)

no_field : {f : List ℕ} {rest : List (List ℕ)} → [] ≡ f ∷ rest → ⊥
no_field e = let z : ◌≡◌ {A = ℕ} 0 1 = cc in omega arith

-- fields are left where none should be
pub not_ended : (f : FieldError) {rest : List (List ℕ)} → Leaves rest f → rest ≡ [] → ⊥
not_ended Missing left end = left
not_ended Empty left end = no_field (sym end ∙ left.1)
not_ended TooMany left end = no_field (sym end ∙ left.2.0)
