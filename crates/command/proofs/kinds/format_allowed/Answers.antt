-- `command::kinds::format_allowed` meets its contract: each return is the conjunction as far as the tests on the way decide
-- it. Assumes nothing.
use native.Mathlib.Omega.{arith}
use Rattle.std.proofs.lemmas.Grind.{common_steps}
use Rattle.laws.specs.Choice.{◌and◌}
use Rattle.command.specs.Kinds.{format_allowed}
use Rattle.command.proofs.kinds.format_allowed.Goals as goal

pub returns-then-word-eq0-4 : goal.returns-then-word-eq0-4
unfolding format_allowed ◌and◌
returns-then-word-eq0-4 c = grind (arith, common_steps)

pub returns-else-word-eq0-4 : goal.returns-else-word-eq0-4
unfolding format_allowed ◌and◌
returns-else-word-eq0-4 c = grind (arith, common_steps)
