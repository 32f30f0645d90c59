-- `rules::fits::input` meets its contract: the tests are the judgement. Assumes nothing.
use native.Mathlib.Omega.{arith}
use Rattle.std.proofs.lemmas.Grind.{common_steps}
use Rattle.laws.specs.Choice.{◌and◌}
use Rattle.rules.proofs.Fitting.{input_decided}
use Rattle.rules.proofs.fits.input.Goals as goal

pub returns-then-superfine_allowed : goal.returns-then-superfine_allowed
unfolding ◌and◌
returns-then-superfine_allowed c = rw (← input_decided c.args.base c.args.format c.args.height c.args.number) (grind (arith, common_steps))

pub returns-else-superfine_allowed : goal.returns-else-superfine_allowed
unfolding ◌and◌
returns-else-superfine_allowed c = rw (← input_decided c.args.base c.args.format c.args.height c.args.number) (grind (arith, common_steps))
