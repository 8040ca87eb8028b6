-- A test that finds the line at which a console took up a body.
use Rattle.std.proofs.Common.{◌≡◌, ℕ, Bool, ◌&&◌, T, eqb, Some, sym, ap, ◌∙◌, subst, eqb→eq}
use mathlib.Core.List.{Memᴰ}
use Rattle.wire.specs.Format.{body_key}
use Rattle.wire.specs.declared.body.Body.{Body}
use Rattle.wire.specs.declared.key.Key.{Key}
use Rattle.rules.specs.Hear.{proposes}
use Rattle.rules.specs.Step.{Vouched}
use Rattle.sheets.specs.Sheet.{Pit, Sheet, Spot, did, relied_in, shown_in}
use Rattle.witness.specs.Facts.{TakesUp}
use Rattle.witness.proofs.Run.{Entry, Trace, at_some, run, some}
use Rattle.witness.proofs.Same.{body_is, same_body, same_statement, statement_is}
use Rattle.witness.proofs.Tests.{any_of, both, is_some, one_of, some_is}

module _ (i signer : ℕ) (b : Body) (k : Key) where
  abbrev vouched : Vouched
  vouched = record { signer = signer; statement = proposes k }

  abbrev same_vouched : Vouched → Bool
  same_vouched v = eqb v.signer signer && same_statement v.statement (proposes k)

  vouched_is : (v : Vouched) → T (same_vouched v) → v ≡ vouched
  vouched_is v t =
      let parts = both (eqb v.signer signer) (same_statement v.statement (proposes k)) t in
      let who = eqb→eq v.signer signer parts.0 in
      let what = statement_is v.statement (proposes k) parts.1 in
      λ j. record { signer = who j; statement = what j }

  abbrev takes : Entry → Trace → Bool
  takes e es =
      eqb e.line.console i
      && (is_some (λ x. same_body x b) (shown_in e.outcome) && any_of same_vouched (relied_in e.outcome))

  unfoldable pub taken : Trace → Bool
  taken es = some takes es

  pub taken_is : (pit : Pit) (sheet : Sheet) → body_key b ≡ k → T (taken (run pit sheet))
      → (p : Spot sheet) × (p.line.console ≡ i) × TakesUp pit p signer b
  unfolding taken
  taken_is pit sheet key t =
      let found = at_some pit takes sheet t in
      let p : Spot sheet = found.0 in
      let shows : Bool = is_some (λ x. same_body x b) (shown_in (did pit p)) in
      let relies : Bool = any_of same_vouched (relied_in (did pit p)) in
      let place = both (eqb p.line.console i) (shows && relies) found.1 in
      let parts = both shows relies place.1 in
      let shown = some_is (λ x. same_body x b) (shown_in (did pit p)) parts.0 in
      let relied = one_of same_vouched (relied_in (did pit p)) parts.1 in
      let named : Memᴰ vouched (relied_in (did pit p)) =
      subst (λ v. Memᴰ v (relied_in (did pit p))) (vouched_is relied.0 relied.2) relied.1 in (
        p,
        eqb→eq p.line.console i place.0,
        record {
          shown = shown.1 ∙ ap Some (body_is shown.0 b shown.2);
          seal =
              subst
              (λ x. Memᴰ (record { signer = signer; statement = proposes x }) (relied_in (did pit p)))
              (sym key)
              named;
        },
      )
