-- One write after another.
use Rattle.std.proofs.Common.{◌≡◌, ℕ, ◌+◌, ◌<◌, ◌≤◌, List, [], ◌++◌, length, get_or, take, drop, sym, refl, ap, ◌∙◌, subst, arith}
use Rattle.std.proofs.lemmas.List.{append-nil, append_assoc, length-append, take-append-drop, flat_map_more, take_more, drop_all}
use Rattle.std.specs.List.{flat_map}
use Rattle.wire.specs.Written.{Wrote, Puts}
use Rattle.wire.specs.declared.put.Writer.{Writer}

pub wrote_then : {a : List ℕ} {at : ℕ} {x : List ℕ} {e : ℕ} {b y : List ℕ} {f : ℕ} {c : List ℕ} → Wrote a at x e b → Wrote b e y f c → Wrote a at (x ++ y) f c
wrote_then {a} {at} {x} {e} {b} {y} {f} {c} p q =
    record {
      ends = simp length-append (omega arith);
      front = q.front ∙ (ap (λ (l : List ℕ). l ++ y) p.front ∙ append_assoc _ x y);
      rest = λ k h. q.rest k h ∙ p.rest k (omega arith);
    }

pub wrote_none : (a : List ℕ) (at : ℕ) → Wrote a at [] at a
wrote_none a at = record { ends = omega arith; front = sym (append-nil (take at a)); rest = λ k h. refl }

-- a record that stands at the start
pub written : {old : List ℕ} {bytes : List ℕ} {n : ℕ} {new : List ℕ} → Wrote old 0 bytes n new → (n ≡ length bytes) × (new ≡ bytes ++ drop n old)
written {old} {bytes} {n} {new} w =
    (omega arith, sym (take-append-drop n new) ∙ (ap (λ (l : List ℕ). l ++ drop n new) w.front ∙ ap (λ (l : List ℕ). bytes ++ l) (w.rest n (omega arith))))

-- a record that fills all
pub filled : {old : List ℕ} {bytes : List ℕ} {n : ℕ} {new : List ℕ} → length old ≤ n → Wrote old 0 bytes n new → new ≡ bytes
filled {old} {bytes} {n} {new} h w =
    (written w).1 ∙ (ap (λ (l : List ℕ). bytes ++ l) (drop_all n old h) ∙ append-nil bytes)

-- What a writer puts.

pub puts_as : {x y : List ℕ} {v w : Writer} → x ≡ y → Puts x v w → Puts y v w
puts_as {x} {y} {v} {w} e p = subst (λ (b : List ℕ). Puts b v w) e p

pub puts_then : {x y : List ℕ} {u v w : Writer} → Puts x u v → Puts y v w → Puts (x ++ y) u w
puts_then p q =
    record { wrote = wrote_then p.wrote q.wrote; room = q.room ∙ p.room; lent = q.lent ∙ p.lent }

pub puts_none : (w : Writer) → Puts [] w w
puts_none w = record { wrote = wrote_none w.out.now w.at; room = refl; lent = refl }

-- of a list of records, one more
pub puts_more : {X : Type 0} (f : X → List ℕ) (xs : List X) (i : ℕ) (d : X) → i < length xs → {u v w : Writer} → Puts (flat_map f (take i xs)) u v → Puts (f (get_or xs i d)) v w → Puts (flat_map f (take (i + 1) xs)) u w
puts_more f xs i d h p q =
    puts_as (flat_map_more f [] (take i xs) (get_or xs i d) ∙ ap (flat_map f) (sym (take_more xs i d h))) (puts_then p q)

-- from the start
from_start : {a b : List ℕ} {at : ℕ} {x : List ℕ} {e : ℕ} {c : List ℕ} → at ≡ 0 → a ≡ b → Wrote a at x e c → Wrote b 0 x e c
from_start {a} {b} {at} {x} {e} {c} z o w = subst (λ (l : List ℕ). Wrote l 0 x e c) o (subst (λ (n : ℕ). Wrote a n x e c) z w)

-- a record that a writer put at the start
pub written_by : {x : List ℕ} {v w : Writer} {old new : List ℕ} {n : ℕ} → Puts x v w → v.at ≡ 0 → v.out.now ≡ old → n ≡ w.at → new ≡ w.out.now → (n ≡ length x) × (new ≡ x ++ drop n old)
written_by {x} {v} {w} {old} {new} {n} p z o m e =
    let r = written (from_start z o p.wrote) in
    (m ∙ r.0, e ∙ (r.1 ∙ ap (λ (k : ℕ). x ++ drop k old) (sym m)))

-- a record that fills all
pub filled_by : {x : List ℕ} {v w : Writer} {new : List ℕ} → Puts x v w → v.at ≡ 0 → length v.out.now ≤ w.at → new ≡ w.out.now → new ≡ x
filled_by {x} {v} {w} {new} p z h e = e ∙ filled h (from_start z refl p.wrote)

-- where two ways met
pub puts_is : {x : List ℕ} {u v w : Writer} → w ≡ v → Puts x u v → Puts x u w
puts_is {x} {u} {v} {w} e p = rw e p
