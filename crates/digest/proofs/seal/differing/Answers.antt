use Rattle.std.proofs.Common.{length}
use Rattle.std.proofs.lemmas.List.{length_push}
use Rattle.std.proofs.lemmas.Slice.Zip.{zip_turn}
use Rattle.digest.proofs.Seals.{told_more}
use Rattle.digest.proofs.seal.differing.Goals as goal

pub loop-x-preserved : goal.loop-x-preserved
loop-x-preserved c =
    let t = zip_turn c.args.a.now c.args.b.now c.loop-x.yielded c.into_iter-x-iterator.result c.loop-x.x-iterator c.next.new.self c.next.result (cc) (cc) c.loop-x.yielded_by (c.in-Some.x, c.in-Some.y) c.in-Some.is c.next.ensures.steps in
    let n = length_push c.loop-x.yielded (c.in-Some.x, c.in-Some.y) in
    rw (n, t.2 0, t.3 0) (told_more c.loop-x.bits (length c.loop-x.yielded) c.args.a.now c.args.b.now t.0 t.1 c.loop-x.invariant)
