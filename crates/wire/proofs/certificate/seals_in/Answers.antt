use Rattle.std.proofs.Common.{sym, ap, ◌∙◌, arith, rules, None, ◌≡◌, ◌<◌}
use Rattle.std.proofs.lemmas.List.{set-get_or}
use Rattle.wire.specs.Read.{seals_in}
use Rattle.wire.proofs.Signing.{part_taken, part_there, parts_kept, spread, spread_in, spread_out}
use Rattle.wire.proofs.certificate.seals_in.Goals as goal
use Rattle.wire.proofs.certificate.seals_in.Goals.{then-has+in-Some, else-has, else-has-via-else-has, else-has-via-then-has+in-None-1}

pub loop-i-preserved : goal.loop-i-preserved
loop-i-preserved c =
    let set : c.args.set < 65536 = search rules in
    elim c.if-has.branch [
      | then-has+in-Some w ↦
          let s = sym c.has.ensures ∙ w.if-has.true in
          let step = rw w.in-Some.is at w.next.ensures.steps in
          let taken = part_taken c.args.set c.args.bytes.now c.loop-i.i set c.loop-i-test.true c.requires s c.loop-i.parts.rest.now c.loop-i.invariant.parts _ _ step in
          record {
            parts = ap (λ t. t.rest.now) w.parts-is ∙ taken.1;
            seals = w.seal-items-is ∙ spread_in c.args.set c.args.bytes.now c.loop-i.i c.loop-i-test.true _ _ s taken.0 c.loop-i.invariant.seals;
          }
      | else-has w ↦ elim w.else-has.branch [
        | else-has-via-else-has w' ↦
            let s = sym c.has.ensures ∙ w'.if-has.false in
            record {
              parts = ap (λ t. t.rest.now) (w.parts-is ∙ w'.parts-is) ∙ (c.loop-i.invariant.parts ∙ parts_kept c.args.set c.args.bytes.now c.loop-i.i s);
              seals = w.seal-items-is ∙ (w'.seal-items-is ∙ (set-get_or c.loop-i.seal-items c.loop-i.i _ ∙ spread_out c.args.set c.args.bytes.now c.loop-i.i c.loop-i-test.true _ s c.loop-i.invariant.seals));
            }
        | else-has-via-then-has+in-None-1 w' ↦
            let s = sym c.has.ensures ∙ w'.if-has.true in
            let none : w'.next.result ≡ None = search rules in
            let step = rw none at w'.next.ensures.steps in
            absurd (part_there c.args.set c.args.bytes.now c.loop-i.i set c.loop-i-test.true c.requires s c.loop-i.parts.rest.now c.loop-i.invariant.parts step.0)
      ]
    ]

pub returns : goal.returns
unfolding seals_in
returns c =
    let end : c.loop-i.i ≡ 16 = omega arith in
    c.loop-i.invariant.seals ∙ ap (spread c.args.set c.args.bytes.now) end
