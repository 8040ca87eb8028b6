use Rattle.std.proofs.Common.{◌≡◌, ℕ, ◌*◌, ◌/◌, ◌<◌, List, [], length, get_or, take, drop, refl, ◌∙◌, arith}
use Rattle.std.specs.Int.{from_be_bytes, w32}
use Rattle.std.specs.Simd.{first_chunks}
use Rattle.digest.specs.Sha256.{schedule}
use Rattle.digest.proofs.Arrays.{chunk_at, chunk_word}
use Rattle.digest.proofs.Steps.{schedule_step, word_read}
use Rattle.digest.proofs.rounds.load.Goals as goal

pub loop-t-init : goal.loop-t-init
unfolding schedule
loop-t-init c = refl

pub loop-t-preserved : goal.loop-t-preserved
loop-t-preserved c =
    let block : List ℕ = c.args.block.now in
    let n : length block / 4 ≡ 16 = omega arith in
    let below = c.loop-t-test.true in
    let cut = c.as_chunks.ensures in
    let whole : c.as_chunks.result.0.now ≡ first_chunks 4 16 block = let f = cut.front in cc in
    let t : ℕ = c.loop-t.t in
    let word : List ℕ = get_or c.as_chunks.result.0.now t [] in
    let early : t < 16 = omega (arith, cut.front_len) in
    let at = chunk_at 4 16 t block early in
    let here : word ≡ take 4 (drop (4 * t) block) = cc in
    let read : c.from_be_bytes.result ≡ from_be_bytes w32 word = c.from_be_bytes.ensures in
    schedule_step block c.loop-t.ws t c.from_be_bytes.result (omega arith)
    (word_read block (take t c.loop-t.ws) t c.from_be_bytes.result early (read ∙ chunk_word block word t here)) c.loop-t.invariant
