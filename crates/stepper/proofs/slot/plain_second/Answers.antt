-- `stepper::slot::plain_second` meets its contract: a test for each field. Assumes nothing.
use Rattle.group.specs.Group.{plain_second}
use Rattle.stepper.proofs.Words.{two_tests}
use Rattle.stepper.proofs.slot.plain_second.Goals as goal

pub returns : goal.returns
unfolding plain_second
returns c = two_tests _ _
