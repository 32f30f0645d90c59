-- `group::planes::leaving` meets its contract: those active whose wish differs from the decision. Assumes nothing.
use Rattle.group.proofs.Places.{leave_jump, leave_stay}
use Rattle.group.proofs.planes.leaving.Goals as goal

pub returns-then-jump : goal.returns-then-jump
returns-then-jump c =
    leave_jump c.args.active c.args.wish c.ranges.active.fits c.ranges.wish.fits c.if-jump.true

pub returns-else-jump : goal.returns-else-jump
returns-else-jump c =
    leave_stay c.args.active c.args.wish c.ranges.active.fits c.ranges.wish.fits c.if-jump.false
