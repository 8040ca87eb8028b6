use Rattle.std.proofs.Common.{refl, arith}
use Rattle.digest.specs.Hmac.{ipad, opad, key_block}
use Rattle.digest.proofs.KeyBlocks.{hmac_is, length-key_block}
use Rattle.digest.proofs.mac.MacKey.tag.Goals as goal

pub returns : goal.returns
returns c =
    let self = c.args.self.now in
    let inner = c.finish-inner.ensures.later (key_block ipad self.key) refl (length-key_block ipad self.key (omega (arith, self.long))) self.inside in
    let outer = c.finish.ensures.later (key_block opad self.key) refl (length-key_block opad self.key (omega (arith, self.long))) self.outside in
    hmac_is self.key c.args.message.now c.finish-inner.result _ (omega (arith, self.long)) inner outer
