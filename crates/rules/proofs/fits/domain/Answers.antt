-- `rules::fits::domain` meets its contract: the tests are the judgement. Assumes nothing.
use native.Mathlib.Omega.{arith}
use Rattle.std.proofs.lemmas.Grind.{common_steps}
use Rattle.laws.specs.Choice.{◌and◌}
use Rattle.rules.proofs.Fitting.{domain_decided}
use Rattle.rules.proofs.fits.domain.Goals as goal

pub returns-then-i0-i1 : goal.returns-then-i0-i1
unfolding ◌and◌
returns-then-i0-i1 c = rw (← domain_decided c.args.i0 c.args.j0 c.args.i1 c.args.j1) (grind (arith, common_steps))

pub returns-else-i0-i1 : goal.returns-else-i0-i1
unfolding ◌and◌
returns-else-i0-i1 c = rw (← domain_decided c.args.i0 c.args.j0 c.args.i1 c.args.j1) (grind (arith, common_steps))
