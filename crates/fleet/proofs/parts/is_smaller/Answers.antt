-- `fleet::parts::is_smaller` meets its contract: 64 bits hold both products. Assumes nothing.
use native.Mathlib.Omega.{arith}
use Rattle.fleet.proofs.Adding.{product_most}
use Rattle.fleet.proofs.parts.is_smaller.Goals as goal

pub overflow_mul-result : goal.overflow_mul-result
overflow_mul-result c = omega (arith, product_most c.requires.0.0 c.requires.1.1)

pub overflow_mul-result-2 : goal.overflow_mul-result-2
overflow_mul-result-2 c = omega (arith, product_most c.requires.1.0 c.requires.0.1)
