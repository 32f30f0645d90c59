-- `stepper::place::go` meets its contract: by the decision and the operation. Assumes nothing.
use mathlib.Core.Path.{refl}
use native.Mathlib.Omega.{arith}
use Prim.Native.Nat.{◌+◌}
use Rattle.group.specs.Cells.{position_in, group_of}
use Rattle.stepper.proofs.Words.{same_returns, way_pop, way_push, way_address, way_on}
use Rattle.stepper.proofs.Going.{given_stack, given_named, position_cell, gone_there, gone_by}
use Rattle.stepper.proofs.place.go.Goals as goal

pub returns-in-1 : goal.returns-in-1
returns-in-1 c =
    let cells = c.args.cells.now in
    gone_by cells c.args.slots
    (way_pop c.args.op (position_in cells) c.args.address.0 (group_of cells).returns
    c.if-jump.true c.in-1.is) c.pop.ensures

pub returns-in-2 : goal.returns-in-2
returns-in-2 c =
    let cells = c.args.cells.now in
    gone_by cells c.args.slots
    (way_push c.args.op (position_in cells) c.args.address.0 (group_of cells).returns
    c.if-jump.true c.in-2.is) c.push.ensures

pub returns-in_default : goal.returns-in_default
returns-in_default c =
    let cells = c.args.cells.now in
    gone_by cells c.args.slots
    (way_address c.args.op (position_in cells) c.args.address.0 (group_of cells).returns
    c.if-jump.true c.in_default.in_default-own.rest.0.1 c.in_default.in_default-own.rest.1) c.jump_to.ensures

pub returns : goal.returns
returns c =
    let cells = c.args.cells.now in
    gone_by cells c.args.slots
    (way_on c.args.op (position_in cells) c.args.address.0 (group_of cells).returns
    c.if-jump.false)
    (gone_there cells c.args.slots
    (same_returns (position_in cells + 1) (group_of cells).returns (given_stack cells c.requires.0))
    (position_cell cells (given_named cells c.requires.0) (position_in cells + 1))
    (omega (arith, c.requires.1)) refl)
