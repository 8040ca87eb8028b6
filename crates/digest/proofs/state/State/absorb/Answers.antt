use Rattle.std.proofs.Common.{length, refl}
use Rattle.digest.specs.Sha256.{absorb}
use Rattle.digest.proofs.Arrays.{chunk_at}
use Rattle.digest.proofs.Steps.{absorb_more}
use Rattle.digest.proofs.state.State.absorb.Goals as goal

pub loop-block-init : goal.loop-block-init
unfolding absorb
loop-block-init c = λ bytes e. refl

pub loop-block-preserved : goal.loop-block-preserved
loop-block-preserved c = λ bytes e.
    let b = chunk_at 64 (length c.args.blocks.now) c.loop-block.block-index bytes c.loop-block-test.true in
    let m = absorb_more c.loop-block.block-index c.args.self bytes in
    let v = c.loop-block.invariant bytes e in
    cc
