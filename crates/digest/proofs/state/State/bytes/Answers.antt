use Rattle.std.proofs.Common.{refl, ap, ◌∙◌, rules}
use Rattle.std.specs.List.{flat_map}
use Rattle.digest.specs.Sha256.{four_bytes, state_bytes, state_words}
use Rattle.digest.proofs.Arrays.{maps_are}
use Rattle.digest.proofs.state.State.bytes.Goals as goal

pub returns : goal.returns
unfolding state_bytes
returns c =
    let m = maps_are _ four_bytes _ (λ x y q h. search rules) 8 (state_words c.args.self) c.map.result refl c.map.ensures.items in
    c.copy_from_slice.ensures.after ∙ c.as_flattened.ensures.value ∙ ap (flat_map (λ x. x)) m
