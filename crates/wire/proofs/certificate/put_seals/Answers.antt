use Rattle.std.proofs.Common.{◌<◌, sym, ap, ◌∙◌, arith, rules}
use Rattle.wire.specs.Format.{packed_below}
use Rattle.wire.specs.declared.put.Writer.{Writer}
use Rattle.wire.proofs.Signing.{before_none, before_in, before_out, before_signer, packed_in, packed_out}
use Rattle.wire.proofs.Writing.{puts_as, puts_is, puts_none, puts_then}
use Rattle.wire.proofs.certificate.put_seals.Goals as goal
use Rattle.wire.proofs.certificate.put_seals.Goals.{then-has, else-has}

pub loop-i-init : goal.loop-i-init
unfolding packed_below
loop-i-init c = let n = before_none c.args.set in (omega arith, puts_none _)

pub put-requires : goal.put-requires
put-requires c =
    let set : c.args.set < 65536 = search rules in
    let more = before_signer c.args.set c.loop-i.i set (omega arith) (sym c.if-has.ensures) in
    let seal = c.told-seals c.loop-i.i (omega arith) in
    omega arith

pub loop-i-preserved : goal.loop-i-preserved
loop-i-preserved c =
    elim c.if-has.branch [
      | then-has w ↦
          let s = sym c.has.ensures ∙ w.if-has.true in
          let more = before_in c.args.set c.loop-i.i s in
          let seal = c.told-seals c.loop-i.i (omega arith) in
          let at = ap (λ (x : Writer). x.at) w.out-is in (
            omega (arith, at, w.put.ensures.wrote.ends),
            puts_is w.out-is
                (puts_as (packed_in c.args.set c.args.seals.now c.loop-i.i s)
                (puts_then c.loop-i.invariant.1 w.put.ensures)),
          )
      | else-has w ↦
          let s = sym c.has.ensures ∙ w.if-has.false in
          let more = before_out c.args.set c.loop-i.i s in
          let at = ap (λ (x : Writer). x.at) w.out-is in (
            omega (arith, at),
            puts_is w.out-is (puts_as (packed_out c.args.set c.args.seals.now c.loop-i.i s) c.loop-i.invariant.1),
          )
    ]
