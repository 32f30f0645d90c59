-- `rules::fits::window` meets its contract: the tests are the judgement. Assumes nothing.
use native.Mathlib.Omega.{arith}
use Rattle.std.proofs.lemmas.Grind.{common_steps}
use Rattle.laws.specs.Choice.{◌and◌}
use Rattle.rules.proofs.Fitting.{window_decided}
use Rattle.rules.proofs.fits.window.Goals as goal

pub returns-then-format_allowed : goal.returns-then-format_allowed
unfolding ◌and◌
returns-then-format_allowed c = rw (← window_decided c.args.base c.args.format c.args.height) (grind (arith, common_steps))

pub returns-else-format_allowed : goal.returns-else-format_allowed
unfolding ◌and◌
returns-else-format_allowed c = rw (← window_decided c.args.base c.args.format c.args.height) (grind (arith, common_steps))
