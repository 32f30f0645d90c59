-- `command::kinds::superfine_allowed` meets its contract: the two cases of the definition. Assumes nothing.
use native.Mathlib.Omega.{arith}
use Rattle.std.proofs.lemmas.Grind.{common_steps}
use Rattle.laws.specs.Choice.{pick}
use Rattle.command.specs.Kinds.{superfine_allowed}
use Rattle.command.proofs.kinds.superfine_allowed.Goals as goal

pub returns-then-not-superfine : goal.returns-then-not-superfine
unfolding superfine_allowed pick
returns-then-not-superfine c = grind (arith, common_steps)

pub returns-else-not-superfine : goal.returns-else-not-superfine
unfolding superfine_allowed pick
returns-else-not-superfine c = grind (arith, common_steps)
