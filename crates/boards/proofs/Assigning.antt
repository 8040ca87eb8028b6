-- The laws of the assignment board.
use Rattle.std.proofs.Common.{◌≡◌, ℕ, ◌<◌, ◌≤◌, Bool, true, false, cond, eqb, ◌⊎◌, List, length, get_or, set, is_some, Some, None, Option, sym, refl, ap, ◌∙◌, subst, inl, inr, ⊎_elim, arith}
use Rattle.std.specs.Option.{option_eq}
use Rattle.std.proofs.lemmas.List.{length-set, get_or-set_same, get_or-set_other, get_or_past}
use Rattle.std.proofs.lemmas.Bool.{and_parts, not-true, cases_eq, cases_lt, both_ways, eqb-true, eqb-false, eq-eqb, ltb-true}
use Rattle.std.proofs.lemmas.Bool.Decides.{nat_tests}
use Rattle.shelf.specs.Laws.{First, Nowhere}
use Rattle.shelf.specs.Slots.{shown}
use Rattle.shelf.proofs.Meaning.{finds, finds_vacant}
use Rattle.wire.specs.declared.order.Order.{Order}
use Rattle.wire.specs.declared.order.Order.TheVariants.{Send, Release, Load}
use Rattle.wire.specs.Format.{well_formed}
use Rattle.boards.specs.declared.assignment.line.Line.{Line}
use Rattle.boards.specs.declared.assignment.line.Change.{Change}
use Rattle.boards.specs.Trucks.{Roster, assigned, change, effective, free_line, line_of, or_else, or_nowhere, found_place, line_place, released, sent, truck_of, trucks_at, whereabouts, writing, written}
use Rattle.boards.specs.TruckLaws.{AssignmentTells, OneLineAtMost, LimitHolds, SentWithin, OneEach, OneEachStays, Arrives, Leaves}
use Rattle.boards.proofs.Counting.{one_at, one_at_most, trucks_set_most}

-- the truck on line i
abbrev truck_at : List (Option Line) → ℕ → Option ℕ
truck_at lines i = shown truck_of (get_or lines i None)

line_found : (truck : ℕ) (lines : List (Option Line)) (i : ℕ) → line_of truck lines ≡ Some i → First (shown truck_of) None (Some truck) lines i
line_found truck lines i = ((finds eqb (shown truck_of) None eqb-true (λ a. eq-eqb a a refl) truck lines).0 i).0

line_first : (truck : ℕ) (lines : List (Option Line)) (i : ℕ) → First (shown truck_of) None (Some truck) lines i → line_of truck lines ≡ Some i
line_first truck lines i = ((finds eqb (shown truck_of) None eqb-true (λ a. eq-eqb a a refl) truck lines).0 i).1

line_missing : (truck : ℕ) (lines : List (Option Line)) → line_of truck lines ≡ None → Nowhere (shown truck_of) None (Some truck) lines
line_missing truck lines = (finds eqb (shown truck_of) None eqb-true (λ a. eq-eqb a a refl) truck lines).1.0

line_nowhere : (truck : ℕ) (lines : List (Option Line)) → Nowhere (shown truck_of) None (Some truck) lines → line_of truck lines ≡ None
line_nowhere truck lines = (finds eqb (shown truck_of) None eqb-true (λ a. eq-eqb a a refl) truck lines).1.1

free_found : (lines : List (Option Line)) (i : ℕ) → free_line lines ≡ Some i → First (shown truck_of) None None lines i
free_found lines i = ((finds_vacant (shown truck_of) None lines).0 i).0

some_not_none : {A : Type 0} (x : A) → Some x ≡ None → ⊥
some_not_none x e = cc

cond-some : {A : Type 0} (b : Bool) (x : Option A) (c : A) → cond b x None ≡ Some c → (b ≡ true) × (x ≡ Some c)
cond-some true x c e = (refl, e)
cond-some false x c e = absurd (some_not_none c (sym e))

writing_is : (l : Option Line) (o : Option ℕ) (c : Change) → writing l o ≡ Some c → (o ≡ Some c.at) × (c.line ≡ l)
writing_is l None c e = absurd (some_not_none c (sym e))
writing_is l (Some i) c e = let s : record { at = i; line = l } ≡ c = cc in (ap (λ (k : Change). Some k.at) s, sym (ap (λ (k : Change). k.line) s))

-- line `at` is the truck's lowest, or is free while the truck has none
record Seated (lines : List (Option Line)) (truck at : ℕ) : Type 0 where
  pub inside : at < length lines
  pub before : (j : ℕ) → j < at → truck_at lines j ≡ Some truck → ⊥
  pub was : (line_of truck lines ≡ Some at) ⊎ ((truck_at lines at ≡ None) × Nowhere (shown truck_of) None (Some truck) lines)

seated_by :
    (lines : List (Option Line)) (truck i : ℕ) (o : Option ℕ) →
    line_of truck lines ≡ o → or_else o (free_line lines) ≡ Some i → Seated lines truck i
seated_by lines truck i None e h =
    let f = free_found lines i h in
    let n = line_missing truck lines e in
    record { inside = f.0; before = λ j l. n j (omega (arith, f.0)); was = inr (f.1, n) }
seated_by lines truck i (Some k) e h =
    let own = e ∙ h in
    let f = line_found truck lines i own in
    record { inside = f.0; before = f.2; was = inl own }

-- a place is never 0, so a truck is at it exactly if that is the place of its line
pub stands_at : (o : Option ℕ) (place : ℕ) → 1 ≤ place → option_eq eqb o (Some place) ≡ eqb (or_nowhere o) place
stands_at None place h = grind (arith, nat_tests)
stands_at (Some p) place h = refl

-- what an effective send tells
record Sending (w : Roster) (truck place : ℕ) (c : Change) : Type 0 where
  pub moves : whereabouts truck w.lines ≡ place → ⊥
  pub room : trucks_at place w.lines < w.limit
  pub seated : Seated w.lines truck c.at
  pub line : c.line ≡ Some (record { truck = truck; place = place })

sending : (w : Roster) (truck place : ℕ) (c : Change) → change w (Send truck place) ≡ Some c → Sending w truck place c
unfolding change sent
sending w truck place c e =
    let a = (cond-some (well_formed (Send truck place)) _ c e).1 in
    let b = cond-some _ _ c a in
    let t = and_parts _ _ b.0 in
    let i = writing_is _ _ c b.1 in
    record {
      moves = eqb-false _ _ (not-true _ t.0);
      room = ltb-true _ _ t.1;
      seated = seated_by w.lines truck c.at (line_of truck w.lines) refl i.0;
      line = i.1;
    }

releasing : (w : Roster) (truck : ℕ) (c : Change) → change w (Release truck) ≡ Some c → (line_of truck w.lines ≡ Some c.at) × (c.line ≡ None)
unfolding change released
releasing w truck c e = writing_is None (line_of truck w.lines) c (cond-some (well_formed (Release truck)) _ c e).1

loading : (w : Roster) (truck place amount : ℕ) (c : Change) → change w (Load truck place amount) ≡ Some c → ⊥
unfolding change
loading w truck place amount c e = some_not_none c (sym (cond-some (well_formed (Load truck place amount)) None c e).1)

-- an order changes nothing, or writes one line
changes : (w : Roster) (order : Order) → (change w order ≡ None) ⊎ ((c : Change) × (change w order ≡ Some c))
changes w order = either (change w order)
  where
    either : (o : Option Change) → (o ≡ None) ⊎ ((c : Change) × (o ≡ Some c))
    either None = inl refl
    either (Some c) = inr (c, refl)

assigned_none : (w : Roster) (order : Order) → change w order ≡ None → assigned w order ≡ w
assigned_none w order e = ap (λ (o : Option Change). written o w) e

assigned_some : (w : Roster) (order : Order) (c : Change) → change w order ≡ Some c → (assigned w order).lines ≡ set w.lines c.at c.line
assigned_some w order c e = ap (λ (o : Option Change). (written o w).lines) e

effect_some : (w : Roster) (order : Order) (c : Change) → change w order ≡ Some c → effective w order ≡ true
effect_some w order c e = ap (λ (o : Option Change). is_some o) e

effect_none : (w : Roster) (order : Order) → change w order ≡ None → effective w order ≡ false
effect_none w order e = ap (λ (o : Option Change). is_some o) e

-- an effective order writes one line
effect_change : (w : Roster) (order : Order) → effective w order ≡ true → (c : Change) × (change w order ≡ Some c)
effect_change w order e =
    ⊎_elim (λ n. absurd (both_ways _ (effect_none w order n) e)) (λ c. c) (changes w order)

pub one_line_at_most : OneLineAtMost
one_line_at_most w order =
    ⊎_elim
    (λ n. let e = assigned_none w order n in (
      ap (λ (v : Roster). v.limit) e,
      ap (λ (v : Roster). length v.lines) e,
      (0, λ k _. ap (λ (v : Roster). get_or v.lines k None) e),
    ))
    (λ f. let c = f.0 in let e = assigned_some w order c f.1 in (
      ap (λ (o : Option Change). (written o w).limit) f.1,
      ap (λ (ls : List (Option Line)). length ls) e ∙ length-set w.lines c.at c.line,
      (c.at, λ k n. ap (λ (ls : List (Option Line)). get_or ls k None) e ∙ get_or-set_other w.lines c.at k c.line None n),
    ))
    (changes w order)

-- the line written was another before
other_before : (w : Roster) (order : Order) (c : Change) → change w order ≡ Some c → (c.at < length w.lines) × (get_or w.lines c.at None ≡ c.line → ⊥)
other_before w (Send truck place) c e =
    let s = sending w truck place c e in (
      s.seated.inside,
      λ same.
          ⊎_elim
          (λ own.
          s.moves
          (ap (λ (o : Option ℕ). or_nowhere (found_place o w.lines)) own ∙
          (ap (λ (l : Option Line). or_nowhere (line_place l)) same ∙ ap (λ (l : Option Line). or_nowhere (line_place l)) s.line)))
          (λ new.
          some_not_none truck
          (sym (ap (λ (l : Option Line). shown truck_of l) s.line) ∙
          (sym (ap (λ (l : Option Line). shown truck_of l) same) ∙ new.0)))
          s.seated.was,
    )
other_before w (Release truck) c e =
    let r = releasing w truck c e in
    let f = line_found truck w.lines c.at r.0 in (
      f.0,
      λ same. some_not_none truck (sym f.1 ∙ (ap (λ (l : Option Line). shown truck_of l) (same ∙ r.1))),
    )
other_before w (Load truck place amount) c e = absurd (loading w truck place amount c e)

pub assignment_tells : AssignmentTells
assignment_tells w order = (
  λ e same.
      let f = effect_change w order e in
      let c = f.0 in
      let b = other_before w order c f.1 in
      let ls = sym (assigned_some w order c f.1) ∙ ap (λ (v : Roster). v.lines) same in
      b.1 (sym (ap (λ (ls : List (Option Line)). get_or ls c.at None) ls) ∙ get_or-set_same w.lines c.at c.line None b.0),
  λ changed.
      ⊎_elim (λ n. absurd (changed (assigned_none w order n))) (λ f. effect_some w order f.0 f.1) (changes w order),
)

one_at_line : (q truck place : ℕ) → (place ≡ q) ⊎ (one_at q (Some (record { truck = truck; place = place })) ≡ 0)
one_at_line q truck place =
    ⊎_elim (λ e. inl e) (λ n. inr (grind (arith, nat_tests))) (cases_eq place q)

written_within :
    (w : Roster) (order : Order) (c : Change) (q : ℕ) →
    change w order ≡ Some c →
    trucks_at q w.lines ≤ w.limit → trucks_at q (set w.lines c.at c.line) ≤ w.limit
written_within w (Send truck place) c q e h =
    let s = sending w truck place c e in
    let m = trucks_set_most q c.at w.lines c.line s.seated.inside in
    let l = ap (λ (l : Option Line). one_at q l) s.line in
    ⊎_elim
    (λ here.
    let r : trucks_at q w.lines < w.limit = subst (λ (p : ℕ). trucks_at p w.lines < w.limit) here s.room in
    let o = one_at_most q c.line in
    omega arith)
    (λ away. omega (arith, l, m, away))
    (one_at_line q truck place)
written_within w (Release truck) c q e h =
    let r = releasing w truck c e in
    let f = line_found truck w.lines c.at r.0 in
    let m = trucks_set_most q c.at w.lines c.line f.0 in
    let l = ap (λ (l : Option Line). one_at q l) r.1 in
    omega (arith, l, m)
written_within w (Load truck place amount) c q e h = absurd (loading w truck place amount c e)

pub limit_holds : LimitHolds
limit_holds w order q h =
    ⊎_elim
    (λ n. let e = assigned_none w order n in omega (arith, ap (λ (v : Roster). trucks_at q v.lines) e))
    (λ f.
    let e = assigned_some w order f.0 f.1 in
    let i = written_within w order f.0 q f.1 h in
    omega (arith, i, ap (λ (ls : List (Option Line)). trucks_at q ls) e))
    (changes w order)

pub sent_within : SentWithin
sent_within w truck place e =
    let f = effect_change w (Send truck place) e in
    let s = sending w truck place f.0 f.1 in
    let r = s.room in
    limit_holds w (Send truck place) place (omega arith)

in_table : (lines : List (Option Line)) (truck j : ℕ) → truck_at lines j ≡ Some truck → j < length lines
in_table lines truck j e =
    ⊎_elim
    (λ l. l)
    (λ past. absurd (some_not_none truck (sym e ∙ ap (λ (l : Option Line). shown truck_of l) (get_or_past lines j None past))))
    (cases_lt j (length lines))

-- no other line is of the truck on the line that is written
written_alone :
    (w : Roster) (order : Order) (c : Change) (truck j : ℕ) →
    change w order ≡ Some c →
    OneEach w.lines → shown truck_of c.line ≡ Some truck → truck_at w.lines j ≡ Some truck → j ≡ c.at
written_alone w (Send sent_truck place) c truck j e each is h =
    let s = sending w sent_truck place c e in
    let t : Some sent_truck ≡ Some truck = sym (ap (λ (l : Option Line). shown truck_of l) s.line) ∙ is in
    let g = h ∙ sym t in
    ⊎_elim
    (λ own. each sent_truck j c.at g (line_found sent_truck w.lines c.at own).1)
    (λ new. absurd (new.1 j (in_table w.lines truck j h) g))
    s.seated.was
written_alone w (Release sent_truck) c truck j e each is h =
    absurd (some_not_none truck (sym is ∙ ap (λ (l : Option Line). shown truck_of l) (releasing w sent_truck c e).1))
written_alone w (Load sent_truck place amount) c truck j e each is h = absurd (loading w sent_truck place amount c e)

set_keeps :
    (lines : List (Option Line)) (at : ℕ) (l : Option Line) →
    at < length lines →
    OneEach lines →
    ((truck j : ℕ) → shown truck_of l ≡ Some truck → truck_at lines j ≡ Some truck → j ≡ at) → OneEach (set lines at l)
set_keeps lines at l inside each alone truck i j a b =
    ⊎_elim
    (λ ia. ⊎_elim (λ ja. ia ∙ sym ja) (λ jn. ia ∙ sym (alone truck j (at_line i ia a) (other j jn b))) (cases_eq j at))
    (λ ia. ⊎_elim (λ ja. alone truck i (at_line j ja b) (other i ia a) ∙ sym ja) (λ jn. each truck i j (other i ia a) (other j jn b)) (cases_eq j at))
    (cases_eq i at)
  where
    at_line : (k : ℕ) → k ≡ at → truck_at (set lines at l) k ≡ Some truck → shown truck_of l ≡ Some truck
    at_line k e h =
        sym (ap (λ (x : Option Line). shown truck_of x) (ap (λ (n : ℕ). get_or (set lines at l) n None) e ∙ get_or-set_same lines at l None inside)) ∙ h

    other : (k : ℕ) → (k ≡ at → ⊥) → truck_at (set lines at l) k ≡ Some truck → truck_at lines k ≡ Some truck
    other k n h = sym (ap (λ (x : Option Line). shown truck_of x) (get_or-set_other lines at k l None n)) ∙ h

pub one_each_stays : OneEachStays
one_each_stays w order each =
    ⊎_elim
    (λ n. subst (λ (v : Roster). OneEach v.lines) (sym (assigned_none w order n)) each)
    (λ f.
    let c = f.0 in
    subst OneEach (sym (assigned_some w order c f.1))
    (set_keeps w.lines c.at c.line (other_before w order c f.1).0 each (λ truck j. written_alone w order c truck j f.1 each)))
    (changes w order)

pub arrives : Arrives
arrives w truck place e =
    let f = effect_change w (Send truck place) e in
    let c = f.0 in
    let s = sending w truck place c f.1 in
    let ls = set w.lines c.at c.line in
    let here = get_or-set_same w.lines c.at c.line None s.seated.inside ∙ s.line in
    let first = line_first truck ls c.at (
      subst (λ (n : ℕ). c.at < n) (sym (length-set w.lines c.at c.line)) s.seated.inside,
      ap (λ (l : Option Line). shown truck_of l) here,
      λ j l h.
          let n : j ≡ c.at → ⊥ = λ same. omega arith in
          s.seated.before j l (sym (ap (λ (x : Option Line). shown truck_of x) (get_or-set_other w.lines c.at j c.line None n)) ∙ h),
    ) in
    ap (λ (x : List (Option Line)). whereabouts truck x) (assigned_some w (Send truck place) c f.1) ∙
    (ap (λ (o : Option ℕ). or_nowhere (found_place o ls)) first ∙ ap (λ (l : Option Line). or_nowhere (line_place l)) here)

pub leaves : Leaves
leaves w truck each e =
    let f = effect_change w (Release truck) e in
    let c = f.0 in
    let r = releasing w truck c f.1 in
    let own = line_found truck w.lines c.at r.0 in
    let ls = set w.lines c.at c.line in
    ap (λ (x : List (Option Line)). line_of truck x) (assigned_some w (Release truck) c f.1) ∙
    line_nowhere truck ls
    (λ j l h.
    ⊎_elim
    (λ same.
    some_not_none truck
    (sym h ∙ ap (λ (x : Option Line). shown truck_of x)
    (ap (λ (n : ℕ). get_or ls n None) same ∙ (get_or-set_same w.lines c.at c.line None own.0 ∙ r.1))))
    (λ n.
    n (each truck j c.at (sym (ap (λ (x : Option Line). shown truck_of x) (get_or-set_other w.lines c.at j c.line None n)) ∙ h) own.1))
    (cases_eq j c.at))
