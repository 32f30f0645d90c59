-- `command::kinds::input_format_allowed` meets its contract: both rules of an input's format. Assumes nothing.
use native.Mathlib.Omega.{arith}
use Rattle.std.proofs.lemmas.Grind.{common_steps}
use Rattle.laws.specs.Choice.{◌and◌}
use Rattle.command.specs.Kinds.{allowed}
use Rattle.command.proofs.kinds.input_format_allowed.Goals as goal

pub returns-then-format_allowed : goal.returns-then-format_allowed
unfolding allowed ◌and◌
returns-then-format_allowed c = grind (arith, common_steps)

pub returns-else-format_allowed : goal.returns-else-format_allowed
unfolding allowed ◌and◌
returns-else-format_allowed c = grind (arith, common_steps)
