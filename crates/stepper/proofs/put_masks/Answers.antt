-- `stepper::put_masks` meets its contract: six cells written, the others as they were. Assumes nothing.
use Rattle.stepper.proofs.Going.{masks_cells}
use Rattle.stepper.proofs.put_masks.Goals as goal

pub returns : goal.returns
returns c = masks_cells c.args.cells.now c.requires c.args.w
