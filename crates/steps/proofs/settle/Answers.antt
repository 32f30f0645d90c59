-- `steps::settle` meets its contract: each return is the outcome as far as the tests on the way decide it. Assumes nothing.
use native.Mathlib.Omega.{arith}
use Rattle.group.specs.Group.{a_op, jump_address, way_of}
use Rattle.group.specs.Cells.{position_in, group_of}
use Rattle.std.proofs.lemmas.Result.{err_from_is_err_and}
use Rattle.stepper.proofs.Going.{gone_named, gone_masks}
use Rattle.stepper.proofs.Stepping.{over_by, settle_over, settle_refused, settle_made}
use Rattle.steps.proofs.settle.Goals as goal

pub returns-then-forbidden : goal.returns-then-forbidden
returns-then-forbidden g c =
    settle_over _ c.args.cells.now c.args.first c.args.second c.args.slots c.args.active
    c.args.wish c.args.jump c.requires.0 c.requires.3 c.branch_op-op.ensures
    (over_by c.args.cells.now c.requires.3 c.args.first c.args.jump c.branch_op-op.ensures _ c.forbidden.ensures) c.if-forbidden.true

pub returns-in_err-go : goal.returns-in_err-go
returns-in_err-go g c =
    let p = err_from_is_err_and c.from_residual.result c.from_residual.ensures.1 in
    rw (p.1, p.2)
    (settle_refused _ c.args.cells.now c.args.first c.args.second c.args.slots c.args.active c.args.wish c.args.jump c.requires.0 c.requires.3
    c.branch_op-op.ensures (over_by c.args.cells.now c.requires.3 c.args.first c.args.jump c.branch_op-op.ensures _ c.forbidden.ensures)
    c.if-forbidden.false c.go.ensures c.in_err-go.was)

pub branch-op-requires : goal.branch-op-requires
branch-op-requires g c =
    let cells = c.args.cells.now in
    let way = (way_of (a_op c.args.first) c.args.jump (position_in cells) (jump_address c.args.second)
    (group_of cells).returns) in (
      gone_named way c.go.ensures c.in_ok-go.was c.requires.0.size,
      omega arith,
      gone_masks way c.go.ensures c.in_ok-go.was c.args.active c.requires.3,
    )

pub returns : goal.returns
returns g c =
    settle_made _ c.args.cells.now c.args.first c.args.second c.args.slots c.args.active
    c.args.wish c.args.jump c.requires.0 c.requires.3 c.branch_op-op.ensures
    (over_by c.args.cells.now c.requires.3 c.args.first c.args.jump c.branch_op-op.ensures _ c.forbidden.ensures)
    c.if-forbidden.false c.go.ensures c.in_ok-go.was c.branch-op.ensures
