use Rattle.std.proofs.Common.{refl}
use Rattle.wire.specs.Bytes.{be, num}
use Rattle.parts.proofs.store.image.image_stands.Goals as goal

pub returns : goal.returns
unfolding be num
returns c = (refl, refl)
