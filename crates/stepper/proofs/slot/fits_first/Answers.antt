-- `stepper::slot::fits_first` meets its contract: a test for each field. Assumes nothing.
use Rattle.group.specs.Group.{fits_first}
use Rattle.stepper.proofs.Words.{five_tests}
use Rattle.stepper.proofs.slot.fits_first.Goals as goal

pub returns : goal.returns
unfolding fits_first
returns c = five_tests _ _ _ _ _
