-- `stepper::place::jump_to` meets its contract: the position alone is written. Assumes nothing.
use mathlib.Core.Path.{refl}
use Rattle.group.specs.Cells.{group_of}
use Rattle.stepper.proofs.Words.{same_returns}
use Rattle.stepper.proofs.Going.{given_stack, given_named, position_cell, gone_past, gone_there}
use Rattle.stepper.proofs.place.jump_to.Goals as goal

pub returns-then-slots-address : goal.returns-then-slots-address
returns-then-slots-address c =
    let cells = c.args.cells.now in
    gone_past cells c.args.slots (same_returns c.args.address.0 (group_of cells).returns (given_stack cells c.requires))
    c.if-slots-address.true refl

pub returns : goal.returns
returns c =
    let cells = c.args.cells.now in
    gone_there cells c.args.slots (same_returns c.args.address.0 (group_of cells).returns (given_stack cells c.requires))
    (position_cell cells (given_named cells c.requires) c.args.address.0) c.if-slots-address.false refl
