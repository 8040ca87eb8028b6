use Rattle.std.proofs.Common.{ℕ, ◌+◌, [], ◌∷◌, ◌++◌, length, refl, arith}
use Rattle.std.proofs.lemmas.List.{length_push}
use Rattle.std.proofs.lemmas.Slice.Zip.{zip_turn}
use Rattle.digest.proofs.Steps.{round_among}
use Rattle.digest.proofs.state.State.eight_rounds.Goals as goal

pub loop-k-preserved : goal.loop-k-preserved
loop-k-preserved c = λ t s words e a b.
    let n : ℕ = length c.loop-k.yielded in
    let turn = zip_turn c.args.ks.now c.args.ws.now c.loop-k.yielded c.into_iter-k-iterator.result c.loop-k.k-iterator c.next.new.self c.next.result (cc) (cc) c.loop-k.yielded_by (c.in-Some.k, c.in-Some.w) c.in-Some.is c.next.ensures.steps in
    let l = length_push c.loop-k.yielded (c.in-Some.k, c.in-Some.w) in
    round_among {m = t + n} {n = t + length (c.loop-k.yielded ++ (c.in-Some.k, c.in-Some.w) ∷ [])} t n s words c.args.ks.now c.args.ws.now a b
    (c.loop-k.invariant t s words e a b) (let k = turn.2 0 in let w = turn.3 0 in let r = c.round-v.ensures in cc) (omega (arith, turn.0)) refl (omega (arith, l))
