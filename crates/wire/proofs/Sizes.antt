-- The lengths of the records.
use Rattle.std.proofs.Common.{◌≡◌, ◌+◌, ◌*◌, List, [], ◌∷◌, length, refl, arith}
use Rattle.std.proofs.lemmas.List.{length-append}
use Rattle.std.specs.List.{flat_map}
use Rattle.wire.specs.Bytes.{be}
use Rattle.wire.specs.Format.{order_bytes, key_bytes, body_bytes, orders_of, packed, certificate_bytes, proposal_bytes, vote_bytes}
use Rattle.wire.specs.declared.order.Order.{Order}
use Rattle.wire.specs.declared.body.Body.{Body}
use Rattle.wire.specs.declared.certificate.Certificate.{Certificate}
use Rattle.wire.specs.declared.message.Proposal.{Proposal}
use Rattle.wire.specs.declared.message.Vote.{Vote}
use Rattle.wire.specs.declared.key.Key.{Key}
use Rattle.wire.specs.declared.order.Order.TheVariants.{Send, Release, Load}
use Rattle.wire.proofs.Numbers.{length-be}

pub length_order : (o : Order) → length (order_bytes o) ≡ 8
length_order (Send truck place) = simp (length-append, length-be)
length_order (Release truck) = simp (length-append, length-be)
length_order (Load truck place amount) = simp (length-append, length-be)

pub length_orders : (os : List Order) → length (flat_map order_bytes os) ≡ 8 * length os
length_orders [] = refl
length_orders (o ∷ os) = let a = length_order o in let ih = length_orders os in simp length-append (omega arith)

pub length-key : (k : Key) → length k.name ≡ 32 → length (key_bytes k) ≡ 36
length-key k h = simp (length-append, length-be) (omega arith)

pub length_body : (b : Body) → length (key_bytes b.parent) ≡ 36 → length (body_bytes b) ≡ 43 + 8 * length (orders_of b.orders)
unfolding body_bytes
length_body b h =
    let os = length_orders (orders_of b.orders) in
    let k = length-append (be 4 b.parent.view) b.parent.name in
    simp (length-append, length-be) (omega (arith, simp (length-append, length-be) at h))

pub length-certificate : (c : Certificate) → length (certificate_bytes c) ≡ 4 + length (key_bytes c.block) + length (packed c.signers)
unfolding certificate_bytes
length-certificate c =
    simp (length-append (key_bytes c.block), length-append (be 2 c.signers.set), length-be) (omega arith)

pub length-proposal : (p : Proposal) → length (proposal_bytes p) ≡ 2 + length (body_bytes p.body) + length (certificate_bytes p.certificate) + length p.seal
unfolding proposal_bytes
length-proposal p = simp length-append (omega arith)

pub length-vote : (v : Vote) → length (vote_bytes v) ≡ 3 + length (key_bytes v.block) + length v.seal
unfolding vote_bytes
length-vote v =
    simp (length-append (key_bytes v.block), length-append (be 1 v.voter), length-be) (omega arith)
