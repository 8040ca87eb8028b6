use Rattle.std.proofs.Common.{refl}
use Rattle.digest.specs.Sha256.{K, absorb, compress, digest, ending, finished, initial, round, rounds, schedule, state_bytes}
use Rattle.digest.specs.Hmac.{hmac, key_block}
use Rattle.digest.proofs.examples.examples_stand.Goals as goal

pub returns : goal.returns
unfolding K absorb compress digest ending finished initial round rounds schedule state_bytes hmac key_block
returns c =
    record { empty_message = refl; one_block = refl; two_blocks = refl; short_key = refl; filled_key = refl; long_key = refl }
