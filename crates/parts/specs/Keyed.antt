-- Keyed seals: the first 16 bytes of HMAC-SHA-256 of the statement under the signer's key.
use Rattle.std.specs.Prelude.{◌≡◌, ℕ, ◌<◌, Bool, true, ◌&&◌, List, [], map, take, nat_lt, slice_index_or}
use Rattle.std.specs.Str.{bytes_eq}
use Rattle.digest.specs.Hmac.{hmac}
use Rattle.digest.specs.declared.mac.MacKey.{MacKey}
use Rattle.wire.specs.Format.{statement_bytes}
use Rattle.wire.specs.declared.statement.Statement.{Statement}

-- the bytes of keys that were made ready
abbrev pub key_bytes : List MacKey → List (List ℕ)
key_bytes keys = map (λ k. k.key) keys

unfoldable pub keyed_seal : List ℕ → Statement → List ℕ
keyed_seal key statement = take 16 (hmac key (statement_bytes statement))

-- there are sixteen signers, each with its key
abbrev pub keyed_table : List (List ℕ) → ℕ → Statement → List ℕ → Bool
keyed_table keys signer statement seal =
    nat_lt signer 16 && bytes_eq seal (keyed_seal (slice_index_or keys signer []) statement)

-- a seal is accepted exactly if it is the signer's
abbrev pub KeyedLaw : Type 0
KeyedLaw =
    (keys : List (List ℕ)) (signer : ℕ) (statement : Statement) (seal : List ℕ) →
    (keyed_table keys signer statement seal ≡ true →
    (signer < 16) × (seal ≡ take 16 (hmac (slice_index_or keys signer []) (statement_bytes statement)))) ×
    ((signer < 16) × (seal ≡ take 16 (hmac (slice_index_or keys signer []) (statement_bytes statement))) →
    keyed_table keys signer statement seal ≡ true)
