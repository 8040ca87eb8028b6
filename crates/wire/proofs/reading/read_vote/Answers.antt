use Rattle.std.proofs.Common.{◌≡◌, take, drop, sym, ap, ◌∙◌, arith}
use Rattle.std.proofs.lemmas.List.{take_all}
use Rattle.std.proofs.lemmas.Bool.Decides.{nat_tests}
use Rattle.wire.specs.Read.{read_vote}
use Rattle.wire.proofs.Numbers.{number_1}
use Rattle.wire.proofs.Proposals.{vote_fallen, vote_read, vote_seal}
use Rattle.wire.proofs.reading.read_vote.Goals as goal

pub returns-then-bytes-ne53 : goal.returns-then-bytes-ne53
unfolding read_vote
returns-then-bytes-ne53 c = record { message = grind (arith, nat_tests); parts = tt }

pub returns-then-stands : goal.returns-then-stands
returns-then-stands c =
    let whole = c.if-bytes-ne53.false in
    let part : c.next-seal.result.bytes.now ≡ drop 37 c.args.bytes.now = c.next-seal.ensures.bytes ∙ (ap (take 16) (vote_seal c.args.bytes.now whole) ∙ vote_seal c.args.bytes.now whole) in
    let seal : c.array_at.result ≡ drop 37 c.args.bytes.now = c.array_at.ensures ∙ (take_all 16 _ (omega arith) ∙ part) in
    record {
      message = vote_read c.args.n c.args.bytes.now whole _ c.key_at-block.ensures (sym (number_1 36 c.args.bytes.now (omega arith))) seal (sym c.if-stands.ensures);
      parts = (c.next-seal.ensures.offset, part);
    }

pub returns-else-stands : goal.returns-else-stands
returns-else-stands c =
    let whole = c.if-bytes-ne53.false in
    let part : c.next-seal.result.bytes.now ≡ drop 37 c.args.bytes.now = c.next-seal.ensures.bytes ∙ (ap (take 16) (vote_seal c.args.bytes.now whole) ∙ vote_seal c.args.bytes.now whole) in
    let seal : c.array_at.result ≡ drop 37 c.args.bytes.now = c.array_at.ensures ∙ (take_all 16 _ (omega arith) ∙ part) in
    record {
      message = vote_fallen c.args.n c.args.bytes.now whole _ c.key_at-block.ensures (sym (number_1 36 c.args.bytes.now (omega arith))) seal (sym c.if-stands.ensures);
      parts = tt;
    }
