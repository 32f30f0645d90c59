-- `steps::branch` meets its contract: the words of an operation are written; without one the planes are right already. Assumes nothing.
use mathlib.Core.Path.{ap, ◌∙◌}
use Rattle.group.specs.Cells.{with_active}
use Rattle.group.specs.Masks.{with_masks}
use Rattle.group.proofs.Places.{masks_shown, branch_lower, branch_raise, branch_none}
use Rattle.stepper.proofs.Going.{active_cell}
use Rattle.steps.proofs.branch.Goals as goal

pub returns-then-op-eq-DECREMENT : goal.returns-then-op-eq-DECREMENT
returns-then-op-eq-DECREMENT g c =
    let args = c.args in
    let branch-lower-here = branch_lower (with_active args.cells.now args.active) args.op args.count args.wish args.jump
    c.lower-w.ensures c.if-op-eq-DECREMENT.true in
    c.put_masks.ensures ∙ ap (with_masks args.cells.now) branch-lower-here

pub returns-then-op-eq-INCREMENT : goal.returns-then-op-eq-INCREMENT
returns-then-op-eq-INCREMENT g c =
    let args = c.args in
    let branch-raise-here = branch_raise (with_active args.cells.now args.active) args.op args.count args.wish args.jump
    c.raise-w.ensures c.if-op-eq-INCREMENT.true in
    c.put_masks-then-op-eq-INCREMENT.ensures ∙ ap (with_masks args.cells.now) branch-raise-here

pub returns : goal.returns
returns g c =
    let args = c.args in
    let cells_told = masks_shown c.requires.2
    ∙ branch_none (with_active args.cells.now args.active) args.op args.count args.wish args.jump c.if-op-eq-DECREMENT.false
    c.if-op-eq-INCREMENT.false in
    active_cell args.cells.now c.requires.0 args.active cells_told
