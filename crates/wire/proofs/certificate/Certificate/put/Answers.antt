use Rattle.std.proofs.Common.{sym, ◌∙◌, arith}
use Rattle.wire.specs.Format.{certificate_bytes}
use Rattle.wire.proofs.Numbers.{be_2}
use Rattle.wire.proofs.Writing.{puts_as, puts_then}
use Rattle.wire.proofs.certificate.Certificate.put.Goals as goal

pub returns : goal.returns
unfolding certificate_bytes
returns c =
    record {
      ends = omega arith;
      wrote = puts_then c.put.ensures
          (puts_then c.put-2.ensures.wrote
          (puts_then (puts_as (c.to_be_bytes.ensures ∙ sym (be_2 c.args.self.now.signers.set)) c.put-3.ensures) c.put_seals.ensures.wrote));
    }
