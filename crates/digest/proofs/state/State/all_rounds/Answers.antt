use Rattle.std.proofs.Common.{◌≡◌, ℕ, ◌+◌, ◌*◌, ◌/◌, List, [], ◌∷◌, ◌++◌, length, refl, ◌∙◌, arith}
use Rattle.std.proofs.lemmas.List.{length_push}
use Rattle.std.proofs.lemmas.Slice.Zip.{zip_turn}
use Rattle.std.specs.Simd.{first_chunks}
use Rattle.digest.specs.Sha256.{K, rounds}
use Rattle.digest.proofs.Arrays.{chunk_at}
use Rattle.digest.proofs.state.State.all_rounds.Goals as goal

pub loop-ks-init : goal.loop-ks-init
unfolding rounds
loop-ks-init c = refl

pub loop-ks-preserved : goal.loop-ks-preserved
unfolding K
loop-ks-preserved c =
    let n : ℕ = length c.loop-ks.yielded in
    let words : List ℕ = c.args.ws.now in
    let eight : length words / 8 ≡ 8 = omega arith in
    let cut = c.as_chunks-2.ensures.front in
    let whole : c.as_chunks-2.result.0.now ≡ first_chunks 8 8 words = cc in
    let t = zip_turn (first_chunks 8 8 K) (first_chunks 8 8 words) c.loop-ks.yielded c.into_iter-ks-iterator.result c.loop-ks.ks-iterator c.next.new.self c.next.result (cc) (cc) c.loop-ks.yielded_by (c.in-Some.ks, c.in-Some.ws) c.in-Some.is c.next.ensures.steps in
    let l = length_push c.loop-ks.yielded (c.in-Some.ks, c.in-Some.ws) in
    let e : 8 * length (c.loop-ks.yielded ++ (c.in-Some.ks, c.in-Some.ws) ∷ []) ≡ 8 * n + 8 = omega (arith, l) in
    rw e (c.eight_rounds-v.ensures (8 * n) c.args.self words c.loop-ks.invariant (t.2 [] ∙ chunk_at 8 8 n K (omega (arith, t.0))) (t.3 [] ∙ chunk_at 8 8 n words (omega (arith, t.1))))
