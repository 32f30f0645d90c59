-- `stepper::place::put_place` meets its contract: five cells written, the others as they were. Assumes nothing.
use Rattle.stepper.proofs.Going.{place_cells}
use Rattle.stepper.proofs.place.put_place.Goals as goal

pub returns : goal.returns
returns c =
    place_cells c.args.cells.now c.requires c.args.at.0 c.args.r0 c.args.r1 c.args.r2 c.args.r3
