use Rattle.std.proofs.Common.{◌<◌, ◌≤◌, sym, ap, ◌∙◌, arith}
use Rattle.rules.specs.Propose.{fits_shelf}
use Rattle.wire.specs.declared.key.Key.{Key}
use Rattle.console.specs.Seen.{seen}
use Rattle.console.proofs.Steps.{leaders_by, ground_view, ground_head, ground_leader, ground_certificate, ground_full, ground_none}
use Rattle.console.proofs.console.Console.check_proposal.Goals as goal

pub returns-then-self-view : goal.returns-then-self-view
returns-then-self-view g c = sym (ground_view _ _ _ c.if-self-view.true)

pub returns-then-view-head : goal.returns-then-view-head
returns-then-view-head g c =
    let e = ap (λ (k : Key). k.view) c.head.ensures in
    let h : c.args.named.now.proposal.now.body.view ≤ c.args.self.now.progress.head.view = omega arith in
    sym (ground_head _ _ _ c.if-self-view.false h)

pub returns-then-not-is_leaders_seal : goal.returns-then-not-is_leaders_seal
returns-then-not-is_leaders_seal g c =
    let t = (g.S.Seals.keys c.args.self.now.seals).table in
    let s = seen g.T.Store.kept c.args.self.now c.args.shelf.now in
    let e = ap (λ (k : Key). k.view) c.head.ensures in
    let h : c.args.self.now.progress.head.view < c.args.named.now.proposal.now.body.view = omega arith in
    sym (ground_leader _ _ _ c.if-self-view.false h (leaders_by t s c.args.named.now.proposal.now _ _ c.args.named.now.named c.if-not-is_leaders_seal.ensures))

pub returns-then-not-is_certificate : goal.returns-then-not-is_certificate
returns-then-not-is_certificate g c =
    let t = (g.S.Seals.keys c.args.self.now.seals).table in
    let s = seen g.T.Store.kept c.args.self.now c.args.shelf.now in
    let e = ap (λ (k : Key). k.view) c.head.ensures in
    let h : c.args.self.now.progress.head.view < c.args.named.now.proposal.now.body.view = omega arith in
    sym (ground_certificate _ _ _ c.if-self-view.false h
    (leaders_by t s c.args.named.now.proposal.now _ _ c.args.named.now.named c.if-not-is_leaders_seal.ensures) (sym c.if-not-is_certificate.ensures))

pub returns-then-not-has_place : goal.returns-then-not-has_place
returns-then-not-has_place g c =
    let t = (g.S.Seals.keys c.args.self.now.seals).table in
    let s = seen g.T.Store.kept c.args.self.now c.args.shelf.now in
    let e = ap (λ (k : Key). k.view) c.head.ensures in
    let h : c.args.self.now.progress.head.view < c.args.named.now.proposal.now.body.view = omega arith in
    sym (ground_full _ s _ c.if-self-view.false h
    (leaders_by t s c.args.named.now.proposal.now _ _ c.args.named.now.named c.if-not-is_leaders_seal.ensures) (sym c.if-not-is_certificate.ensures)
    (sym (c.if-not-has_place.ensures ∙ ap (fits_shelf s) c.args.named.now.named)))

pub returns : goal.returns
returns g c =
    let t = (g.S.Seals.keys c.args.self.now.seals).table in
    let s = seen g.T.Store.kept c.args.self.now c.args.shelf.now in
    let e = ap (λ (k : Key). k.view) c.head.ensures in
    let h : c.args.self.now.progress.head.view < c.args.named.now.proposal.now.body.view = omega arith in
    sym (ground_none _ s _ c.if-self-view.false h
    (leaders_by t s c.args.named.now.proposal.now _ _ c.args.named.now.named c.if-not-is_leaders_seal.ensures) (sym c.if-not-is_certificate.ensures)
    (sym (c.if-not-has_place.ensures ∙ ap (fits_shelf s) c.args.named.now.named)))
