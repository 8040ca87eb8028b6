use Rattle.std.proofs.Common.{◌≡◌, ℕ, ◌+◌, ◌*◌, ◌%◌, ◌^◌, List, ◌++◌, length, take, refl}
use Rattle.digest.specs.Sha256.{ending, finished}
use Rattle.digest.proofs.Blocks.{digest_block, digest_whole, finish_is}
use Rattle.digest.proofs.message.finish.Goals as goal

pub returns : goal.returns
returns c =
    let m : List ℕ = c.args.message.now in
    let r : List ℕ = c.bytes.result in
    let end : List ℕ = take c.tail_len.result c.tail-last.result in
    let cut = c.as_chunks.ensures in
    let cut-2 = c.as_chunks-2.ensures in
    let n = cut.front_len in
    let n-2 = cut-2.front_len in
    let first = c.absorb.ensures m (let f = cut.front in cc) in
    let second = c.absorb-2.ensures end (let f = cut-2.front in cc) in
    let value : r ≡ finished c.args.v (m ++ ending (c.args.before + length m)) =
    finish_is c.args.v c.absorb.result c.absorb-2.result c.args.before
    ((c.args.before + length m) % 2 ^ 64 * 8 % 2 ^ 64) c.tail_len.result m c.as_chunks.result.1.now c.tail-last.result r
    c.requires cut.back refl c.tail-last.ensures (cc) c.tail_len.ensures
    (cc) c.bytes.ensures in
    record {
      value = value;
      first = λ b v. let d = digest_whole m in cc;
      later = λ block b l v. let d = digest_block block m l in cc;
    }
