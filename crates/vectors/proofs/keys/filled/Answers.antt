use Rattle.vectors.proofs.LikeKeys.{filled_is}
use Rattle.vectors.proofs.keys.filled.Goals as goal

pub returns : goal.returns
returns c = filled_is c.args.key.now _ c.copy_from_slice.ensures.after
