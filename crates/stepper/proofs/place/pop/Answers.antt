-- `stepper::place::pop` meets its contract: the first cell tells an empty stack. Assumes nothing.
use mathlib.Core.Path.{refl}
use Rattle.group.specs.Cells.{group_of}
use Rattle.stepper.proofs.Words.{pop_empty, pop_last}
use Rattle.stepper.proofs.Going.{given_stack, given_named, gone_stuck, gone_past, gone_there}
use Rattle.stepper.proofs.place.pop.Goals as goal

pub returns-then-at-eq0 : goal.returns-then-at-eq0
returns-then-at-eq0 c =
    let cells = c.args.cells.now in
    gone_stuck cells c.args.slots
    (pop_empty (group_of cells).returns (given_stack cells c.requires) c.if-at-eq0.true) refl

pub returns-then-slots-at : goal.returns-then-slots-at
returns-then-slots-at c =
    let cells = c.args.cells.now in
    gone_past cells c.args.slots
    (pop_last (group_of cells).returns (given_stack cells c.requires) c.if-at-eq0.false) c.if-slots-at.true refl

pub put_place-requires : goal.put_place-requires
put_place-requires c =
    given_named c.args.cells.now c.requires

pub returns : goal.returns
returns c =
    let cells = c.args.cells.now in
    gone_there cells c.args.slots
    (pop_last (group_of cells).returns (given_stack cells c.requires) c.if-at-eq0.false) c.put_place.ensures c.if-slots-at.false refl
