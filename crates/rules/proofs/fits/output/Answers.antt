-- `rules::fits::output` meets its contract: the tests are the judgement. Assumes nothing.
use native.Mathlib.Omega.{arith}
use Rattle.std.proofs.lemmas.Grind.{common_steps}
use Rattle.laws.specs.Choice.{◌and◌}
use Rattle.rules.proofs.Fitting.{output_decided}
use Rattle.rules.proofs.fits.output.Goals as goal

pub returns-then-number-le3 : goal.returns-then-number-le3
unfolding ◌and◌
returns-then-number-le3 c = rw (← output_decided c.args.base c.args.format c.args.height c.args.number) (grind (arith, common_steps))

pub returns-else-number-le3 : goal.returns-else-number-le3
unfolding ◌and◌
returns-else-number-le3 c = rw (← output_decided c.args.base c.args.format c.args.height c.args.number) (grind (arith, common_steps))
