use Rattle.std.proofs.Common.{ℕ, ◌<◌, sym, arith}
use Rattle.std.proofs.ByRecursion.{All-from_get_or}
use Rattle.wire.specs.Read.{read_proposal}
use Rattle.wire.proofs.Proposals.{body_is, certificate_part_is, seal_is, few_orders, body_whole, certificate_whole, seal_whole, read-unmarked, read-fallen, read-stands, body-named}
use Rattle.wire.proofs.reading.read_proposal.Goals as goal

pub returns-in_err-sizes-clause-message : goal.returns-in_err-sizes-clause-message
unfolding read_proposal
returns-in_err-sizes-clause-message c =
    let e = c.in_err-sizes.ensures.1 in
    let l = c.in_err-sizes.ensures.0 in
    let f = c.from_residual.ensures in
    grind arith

pub split-parts-requires : goal.split-parts-requires
split-parts-requires c = let l = c.in_ok-sizes.ensures in record { whole = l.6; fits = omega (arith, l.1, l.3, l.4) }

pub decode-value-requires : goal.decode-value-requires
decode-value-requires c =
    record {
      few = few_orders c.args.bytes.now _ _ c.in_ok-sizes.ensures _ _ _ c.split-parts.ensures.body.1 c.split-parts.ensures.certificate.1 c.split-parts.ensures.seal.1;
      body = body_whole c.args.bytes.now _ _ c.in_ok-sizes.ensures _ _ _ c.split-parts.ensures.body.1 c.split-parts.ensures.certificate.1 c.split-parts.ensures.seal.1;
      certificate = certificate_whole c.args.bytes.now _ _ c.in_ok-sizes.ensures _ _ _ c.split-parts.ensures.body.1 c.split-parts.ensures.certificate.1 c.split-parts.ensures.seal.1;
      seal = seal_whole c.args.bytes.now _ _ c.in_ok-sizes.ensures _ _ _ c.split-parts.ensures.body.1 c.split-parts.ensures.certificate.1 c.split-parts.ensures.seal.1;
    }

pub returns-then-not-are_marked : goal.returns-then-not-are_marked
returns-then-not-are_marked c =
    record {
      message = read-unmarked c.args.bytes.now _ _ c.in_ok-sizes.ensures _ _ _ c.split-parts.ensures.body.1 c.split-parts.ensures.certificate.1 c.split-parts.ensures.seal.1 c.args.n c.decode-value.result c.decode-value.ensures.body c.decode-value.ensures.certificate c.decode-value.ensures.seal (sym c.if-not-are_marked.ensures);
      parts = tt;
    }

pub returns-then-not-stands : goal.returns-then-not-stands
returns-then-not-stands c =
    record {
      message = read-fallen c.args.bytes.now _ _ c.in_ok-sizes.ensures _ _ _ c.split-parts.ensures.body.1 c.split-parts.ensures.certificate.1 c.split-parts.ensures.seal.1 c.args.n c.decode-value.result c.decode-value.ensures.body c.decode-value.ensures.certificate c.decode-value.ensures.seal (sym c.if-not-are_marked.ensures) (sym c.if-not-stands.ensures);
      parts = tt;
    }

pub returns : goal.returns
returns c =
    let l = c.in_ok-sizes.ensures in
    let octets = All-from_get_or (λ (b : ℕ). b < 256) c.args.bytes.now 0 (λ i h. (c.type_inv.bytes i).fits) in
    let marks = sym c.if-not-are_marked.ensures in
    let stands = sym c.if-not-stands.ensures in
    record {
      message = read-stands c.args.bytes.now _ _ c.in_ok-sizes.ensures _ _ _ c.split-parts.ensures.body.1 c.split-parts.ensures.certificate.1 c.split-parts.ensures.seal.1 c.args.n c.decode-value.result c.decode-value.ensures.body c.decode-value.ensures.certificate c.decode-value.ensures.seal marks stands;
      parts = (
        (c.split-parts.ensures.body.0, body_is c.args.bytes.now _ _ c.in_ok-sizes.ensures _ _ _ c.split-parts.ensures.body.1 c.split-parts.ensures.certificate.1 c.split-parts.ensures.seal.1),
        (omega (arith, l.1, c.split-parts.ensures.certificate.0), certificate_part_is c.args.bytes.now _ _ c.in_ok-sizes.ensures _ _ _ c.split-parts.ensures.body.1 c.split-parts.ensures.certificate.1 c.split-parts.ensures.seal.1),
        (omega (arith, l.1, l.2, c.split-parts.ensures.seal.0), seal_is c.args.bytes.now _ _ c.in_ok-sizes.ensures _ _ _ c.split-parts.ensures.body.1 c.split-parts.ensures.certificate.1 c.split-parts.ensures.seal.1),
        body-named c.args.bytes.now _ _ c.in_ok-sizes.ensures _ _ _ c.split-parts.ensures.body.1 c.split-parts.ensures.certificate.1 c.split-parts.ensures.seal.1 c.args.n c.decode-value.result c.decode-value.ensures.body c.decode-value.ensures.certificate c.decode-value.ensures.seal octets marks stands,
      );
    }
