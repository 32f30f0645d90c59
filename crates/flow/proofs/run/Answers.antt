-- `flow::run` meets its contract: the steps on a copy, which takes the place of the cells where none is refused. Assumes nothing.
use Rattle.flow.proofs.Running.{run_ended, run_made, run_refused}
use Rattle.std.proofs.lemmas.Result.{err_from_is_err_and}
use Rattle.flow.proofs.run.Goals as goal

-- the program has ended
pub returns-then-slots-position : goal.returns-then-slots-position
returns-then-slots-position c =
    run_ended c.args.cells.now c.args.firsts.now c.args.seconds.now c.args.slots
    c.args.booleans c.args.masks.now c.args.integers.now c.if-slots-position.true

-- the steps are made
pub returns : goal.returns
returns c =
    run_made c.args.cells.now c.args.firsts.now c.args.seconds.now c.args.slots
    c.args.booleans c.args.masks.now c.args.integers.now c.if-slots-position.false c.make_steps.ensures
    c.in_ok-steps.was c.first_active.ensures c.number_active.ensures

-- one is refused
pub returns-in_err-steps : goal.returns-in_err-steps
returns-in_err-steps c =
    let p = err_from_is_err_and c.from_residual.result c.from_residual.ensures.1 in
    rw (p.1, p.2)
    (run_refused c.args.cells.now c.args.firsts.now c.args.seconds.now c.args.slots
    c.args.booleans c.args.masks.now c.args.integers.now c.if-slots-position.false c.make_steps.ensures
    c.in_err-steps.was)
