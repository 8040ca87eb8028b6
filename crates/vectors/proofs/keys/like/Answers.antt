use Rattle.std.proofs.Common.{arith}
use Rattle.vectors.proofs.LikeKeys.{digested_key, filled_key}
use Rattle.vectors.proofs.keys.like.Goals as goal

pub returns-in-0-to-32 : goal.returns-in-0-to-32
returns-in-0-to-32 c = λ message. filled_key c.args.key.now _ message (omega arith) c.filled.ensures

pub returns-in_default : goal.returns-in_default
returns-in_default c = λ message. digested_key c.args.key.now _ message (omega arith) c.sha256.ensures
