-- `stepper::place::push` meets its contract: the fourth cell tells a full stack. Assumes nothing.
use mathlib.Core.Path.{refl}
use Rattle.group.specs.Cells.{position_in, group_of}
use Rattle.stepper.proofs.Words.{push_full, push_last}
use Rattle.stepper.proofs.Going.{given_stack, given_named, gone_stuck, gone_past, gone_there}
use Rattle.stepper.proofs.place.push.Goals as goal

pub returns-then-cells-ne0 : goal.returns-then-cells-ne0
returns-then-cells-ne0 c =
    let cells = c.args.cells.now in
    gone_stuck cells c.args.slots
    (push_full (position_in cells) c.args.address.0 (group_of cells).returns
    (given_stack cells c.requires.0) c.if-cells-ne0.true) refl

pub returns-then-slots-to : goal.returns-then-slots-to
returns-then-slots-to c =
    let cells = c.args.cells.now in
    gone_past cells c.args.slots
    (push_last (position_in cells) c.args.address.0 (group_of cells).returns
    (given_stack cells c.requires.0) c.if-cells-ne0.false) c.if-slots-to.true refl

pub put_place-requires : goal.put_place-requires
put_place-requires c =
    given_named c.args.cells.now c.requires.0

pub returns : goal.returns
returns c =
    let cells = c.args.cells.now in
    gone_there cells c.args.slots
    (push_last (position_in cells) c.args.address.0 (group_of cells).returns
    (given_stack cells c.requires.0) c.if-cells-ne0.false) c.put_place.ensures c.if-slots-to.false refl
