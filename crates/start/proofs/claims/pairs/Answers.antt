-- `start::claims::pairs` meets its contract: at most 4,096 columns by 4,096 rows. Assumes nothing.
use mathlib.Core.Path.{refl}
use native.Mathlib.Omega.{arith}
use Rattle.start.proofs.Readiness.{pairs_most}
use Rattle.start.proofs.claims.pairs.Goals as goal

pub overflow_mul-result : goal.overflow_mul-result
overflow_mul-result c = omega (arith, pairs_most c.args.i0 c.args.j0 c.args.i1 c.args.j1 c.requires)

pub returns : goal.returns
returns c = record { value = refl; most = pairs_most c.args.i0 c.args.j0 c.args.i1 c.args.j1 c.requires }
