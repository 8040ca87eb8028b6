-- A test of what the lines of a sheet did, which shows that the sheet is sound.
use Rattle.std.proofs.Common.{◌≡◌, ℕ, Bool, not, ◌&&◌, ◌||◌, T, eqb, ltb, ◌⊎◌, List, [], ◌∷◌, ◌++◌, Some, None, Option, sym, refl, ap, ◌∙◌, subst, inl, inr, eqb→eq, ltb→lt}
use mathlib.Core.List.Memᴰ
use mathlib.Core.List.{Memᴰ}
use lib.Dec.{eqb_refl}
use Rattle.std.specs.Str.{bytes_eq}
use Rattle.wire.specs.Format.{body_name}
use Rattle.wire.specs.declared.body.Body.{Body}
use Rattle.wire.specs.declared.statement.Statement.{Statement}
use Rattle.rules.specs.Step.{Answer, turn, Owed, Vouched}
use Rattle.sheets.specs.Sheet.{Pit, Line, Sheet, Spot, did, done, answer_in, relied_in, sealed_in, shown_in}
use Rattle.sheets.specs.Sound.{TypedLines, SoundLines, Sealed, NoForgery, GoodSeals, Spends, TurnsOnce, OnSheet, NoCollision, SoundPit, SoundSheet}
use Rattle.witness.proofs.Calls.{never_spent, spends_is, spent, turn_is, turn_of, typed_line, typed_line_is}
use Rattle.witness.proofs.Run.{Entry, Trace, run, run_cons, every, some, at_every, at_some}
use Rattle.witness.proofs.Same.{body_is, not_same_bytes, same_body, same_owed, same_statement, statement_is}
use Rattle.witness.proofs.Tests.{all_of, both, each_of, either, given, if_then, is_some, of_some, on_some, some_is}

-- The tests of one entry, with the entries before it, and what each one says.
abbrev typed : Entry → Trace → Bool
typed e es = typed_line e.line

module _ (pit : Pit) where
  abbrev sound_line : Entry → Trace → Bool
  sound_line e es = ltb e.line.console pit.n && pit.sound e.line.console

  -- each seal under a sound number that the entry relied on was given before
  abbrev sealed_it : ℕ → Statement → Entry → Trace → Bool
  sealed_it j st e es = eqb e.line.console j && is_some (λ s. same_statement s st) (sealed_in e.outcome)

  abbrev unforged : Trace → Vouched → Bool
  unforged es v = if_then (pit.sound v.signer) (λ _. some (sealed_it v.signer v.statement) es)

  abbrev relies_well : Entry → Trace → Bool
  relies_well e es = all_of (unforged es) (relied_in e.outcome)

  -- the seal that it gave is accepted
  abbrev seals_well : Entry → Trace → Bool
  seals_well e es =
      on_some (λ st. pit.table e.line.console e.line.console st e.line.seal) (sealed_in e.outcome)

  -- the own turn that it spent was answered before, and not spent
  abbrev owed_it : Owed → Entry → Trace → Bool
  owed_it owed e es =
      eqb e.line.console owed.console
      && is_some (λ a. is_some (same_owed owed) (turn_of a)) (answer_in e.outcome)

  abbrev unspent : Owed → Entry → Trace → Bool
  unspent owed e es = not (is_some (same_owed owed) (spent e.line.call))

  abbrev own : Line → Owed → Bool
  own l owed = eqb owed.console l.console

  abbrev answered_once : Trace → Owed → Bool
  answered_once es owed = some (owed_it owed) es && every (unspent owed) es

  abbrev spends_well : Entry → Trace → Bool
  spends_well e es =
      on_some (λ owed. if_then (own e.line owed) (λ _. answered_once es owed)) (spent e.line.call)

  lines_sound : {sheet : Sheet} → T (every sound_line (run pit sheet)) → SoundLines pit sheet
  lines_sound t p =
      let i : ℕ = p.line.console in
      let parts = both (ltb i pit.n) (pit.sound i) (at_every pit sound_line t p) in
      (ltb→lt i pit.n parts.0, parts.1)

  lines_typed : {sheet : Sheet} → T (every typed (run pit sheet)) → TypedLines sheet
  lines_typed t p = typed_line_is p.line (at_every pit typed t p)

  sealed_is : (sheet : Sheet) (j : ℕ) (st : Statement) → T (some (sealed_it j st) (run pit sheet)) → Sealed pit sheet j st
  sealed_is sheet j st t =
      let found = at_some pit (sealed_it j st) sheet t in
      let q : Spot sheet = found.0 in
      let parts = both (eqb q.line.console j) (is_some (λ s. same_statement s st) (sealed_in (did pit q))) found.1 in
      let hit = some_is (λ s. same_statement s st) (sealed_in (did pit q)) parts.1 in
      (q, eqb→eq q.line.console j parts.0, hit.1 ∙ ap Some (statement_is hit.0 st hit.2))

  nobody_forged : {sheet : Sheet} → T (every relies_well (run pit sheet)) → NoForgery pit sheet
  nobody_forged t p v m s =
      let here = each_of (unforged (run pit p.earlier)) m (at_every pit relies_well t p) in
      let search : Unit {0} → Bool = λ _. some (sealed_it v.signer v.statement) (run pit p.earlier) in
      sealed_is p.earlier v.signer v.statement (given (pit.sound v.signer) search here s.1)

  seals_good : {sheet : Sheet} → T (every seals_well (run pit sheet)) → GoodSeals pit sheet
  seals_good t p st e =
      let accepts : Statement → Bool = λ x. pit.table p.line.console p.line.console x p.line.seal in
      of_some accepts (sealed_in (did pit p)) st (at_every pit seals_well t p) e

  spent_once : {sheet : Sheet} → T (every spends_well (run pit sheet)) → (p : Spot sheet) (owed : Owed)
      → Spends p.line.call owed → owed.console ≡ p.line.console
      → T (some (owed_it owed) (run pit p.earlier)) × T (every (unspent owed) (run pit p.earlier))
  spent_once t p owed s e =
      let es : Trace = run pit p.earlier in
      let test : Owed → Bool = λ o. if_then (own p.line o) (λ _. answered_once es o) in
      let here = of_some test (spent p.line.call) owed (at_every pit spends_well t p) (spends_is p.line.call owed s) in
      let mine = subst (λ i. T (eqb owed.console i)) e (eqb_refl owed.console) in
      both (some (owed_it owed) es) (every (unspent owed) es) (given (own p.line owed) (λ _. answered_once es owed) here mine)

  answered : (sheet : Sheet) (owed : Owed) → T (some (owed_it owed) (run pit sheet))
      → (q : Spot sheet) × (q.line.console ≡ owed.console) × (answer_in (did pit q) ≡ Some (turn owed))
  answered sheet owed t =
      let found = at_some pit (owed_it owed) sheet t in
      let q : Spot sheet = found.0 in
      let same : Answer → Bool = λ a. is_some (same_owed owed) (turn_of a) in
      let parts = both (eqb q.line.console owed.console) (is_some same (answer_in (did pit q))) found.1 in
      let hit = some_is same (answer_in (did pit q)) parts.1 in
      (q, eqb→eq q.line.console owed.console parts.0, hit.1 ∙ ap Some (turn_is hit.0 owed hit.2))

  turns_good : {sheet : Sheet} → T (every spends_well (run pit sheet)) → TurnsOnce pit sheet
  turns_good {sheet} t =
      record {
        came = λ p owed s e. answered p.earlier owed (spent_once t p owed s e).0;
        once = λ p q owed s r e f.
            never_spent q.line.call owed (at_every pit (unspent owed) (spent_once t p owed s e).1 q) r;
      }

-- The bodies on a sheet, each with its name.
pub record Named : Type 0 where
  pub body : Body
  pub name : List ℕ

abbrev pub named : Body → Named
named b = record { body = b; name = body_name b }

abbrev pub named_in : Option Body → List Named
named_in None = []
named_in (Some b) = named b ∷ []

unfoldable pub all_named : Trace → List Named
all_named [] = []
all_named (e ∷ es) = named_in (shown_in e.outcome) ++ all_named es

module _ (pit : Pit) where
  named_cons : (l : Line) (ls : Sheet)
      → all_named (run pit (l ∷ ls)) ≡ named_in (shown_in (done pit l ls)) ++ all_named (run pit ls)
  unfolding all_named
  named_cons l ls = ap all_named (run_cons pit l ls)

  named_later : (later : Sheet) (l : Line) (ls : Sheet) (b : Body) → shown_in (done pit l ls) ≡ Some b
      → Memᴰ (named b) (all_named (run pit (later ++ (l ∷ ls))))
  named_later [] l ls b e =
      let here = subst (λ o. Memᴰ (named b) (named_in o)) (sym e) (Memᴰ.head refl) in
      rw named_cons (Memᴰ.append_left (all_named (run pit ls)) here)
  named_later (x ∷ later) l ls b e =
      rw named_cons (Memᴰ.append_right (named_in (shown_in (done pit x (later ++ (l ∷ ls))))) (named_later later l ls b e))

  on_sheet_named : {sheet : Sheet} (b : Body) → OnSheet pit sheet b → Memᴰ (named b) (all_named (run pit sheet))
  on_sheet_named b on =
      let p = on.0 in
      let here = named_later p.later p.line p.earlier b on.1 in
      subst (λ ls. Memᴰ (named b) (all_named (run pit ls))) (sym p.here) here

-- No two of them share a name, unless they are the same.
abbrev pub differ : Named → Named → Bool
differ x y = not (bytes_eq x.name y.name) || same_body x.body y.body

abbrev pub told_apart : List Named → Bool
told_apart xs = all_of (λ x. all_of (differ x) xs) xs

no_collision : (pit : Pit) {sheet : Sheet} → T (told_apart (all_named (run pit sheet))) → NoCollision pit sheet
no_collision pit {sheet} t b c on_b on_c e =
    let xs : List Named = all_named (run pit sheet) in
    let first = each_of (λ x. all_of (differ x) xs) (on_sheet_named pit b on_b) t in
    let second = each_of (differ (named b)) (on_sheet_named pit c on_c) first in
    resolve (either (not (bytes_eq (body_name b) (body_name c))) (same_body b c) second)
  where
    resolve : T (not (bytes_eq (body_name b) (body_name c))) ⊎ T (same_body b c) → b ≡ c
    resolve (inl s) = absurd (not_same_bytes (body_name b) (body_name c) s e)
    resolve (inr s) = body_is b c s

-- All tests of a trace.
unfoldable pub lawful : Pit → Trace → Bool
lawful pit es =
    every (sound_line pit) es
    && (every typed es
    && (every (relies_well pit) es
    && (every (seals_well pit) es
    && (every (spends_well pit) es && told_apart (all_named es)))))

pub sound_sheet : (pit : Pit) (sheet : Sheet) → SoundPit pit → T (lawful pit (run pit sheet)) → SoundSheet pit sheet
unfolding lawful
sound_sheet pit sheet the_pit t =
    let es : Trace = run pit sheet in
    let names : Bool = told_apart (all_named es) in
    let spends : Bool = every (spends_well pit) es in
    let seals : Bool = every (seals_well pit) es in
    let relies : Bool = every (relies_well pit) es in
    let a = both (every (sound_line pit) es) (every typed es && (relies && (seals && (spends && names)))) t in
    let b = both (every typed es) (relies && (seals && (spends && names))) a.1 in
    let c = both relies (seals && (spends && names)) b.1 in
    let d = both seals (spends && names) c.1 in
    let e = both spends names d.1 in
    record {
      the_pit = the_pit;
      lines = lines_sound pit a.0;
      typed = lines_typed pit b.0;
      seals = nobody_forged pit c.0;
      sealing = seals_good pit d.0;
      turns = turns_good pit e.0;
      digests = no_collision pit e.1;
    }
