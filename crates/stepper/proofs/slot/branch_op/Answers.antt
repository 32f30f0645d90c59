-- `stepper::slot::branch_op` meets its contract: the field that the decision picks. Assumes nothing.
use mathlib.Core.Path.{sym}
use Rattle.laws.proofs.Choice.{pick_yes, pick_no}
use Rattle.stepper.proofs.slot.branch_op.Goals as goal

pub returns-then-jump : goal.returns-then-jump
returns-then-jump c = sym (pick_yes _ _ c.if-jump.true)

pub returns-else-jump : goal.returns-else-jump
returns-else-jump c = sym (pick_no _ _ c.if-jump.false)
