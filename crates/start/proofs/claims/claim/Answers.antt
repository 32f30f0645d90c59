-- `start::claims::claim` meets its contract. Assumes nothing.
use native.Mathlib.Omega.{arith}
use Rattle.start.proofs.Readiness.{claim_told, credit_most, domain_places}
use Rattle.start.proofs.claims.claim.Goals as goal

pub pairs-requires : goal.pairs-requires
pairs-requires c =
    domain_places c.args.own.now c.requires.1

pub overflow_cast-result : goal.overflow_cast-result
overflow_cast-result c =
    omega (arith, credit_most c.args.own.now c.requires.0)

pub overflow_mul-result : goal.overflow_mul-result
overflow_mul-result c =
    omega (arith, (claim_told c.args.own.now c.requires.0 (c.pairs.ensures.value, c.pairs.ensures.most)).1)

pub returns : goal.returns
returns c =
    let both = claim_told c.args.own.now c.requires.0 (c.pairs.ensures.value, c.pairs.ensures.most) in record { value = both.0; most = both.1 }
