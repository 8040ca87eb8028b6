use Rattle.std.proofs.Common.{arith}
use Rattle.digest.proofs.KeyBlocks.{block_all, block_step}
use Rattle.digest.proofs.mac.tags.key_block.Goals as goal

pub loop-i-preserved : goal.loop-i-preserved
loop-i-preserved c =
    block_step c.args.pad c.loop-i.i c.args.key.now c.loop-i.block (omega arith) (omega arith) c.loop-i.invariant

pub returns : goal.returns
returns c = block_all c.args.pad c.loop-i.i c.args.key.now _ (omega arith) c.loop-i.invariant
