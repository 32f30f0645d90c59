-- `flow::step` meets its contract: the step, told with the position that the cells then show. Assumes nothing.
use native.Mathlib.Omega.{arith}
use Rattle.std.proofs.lemmas.Result.{err_from_is_err_and}
use Rattle.stepper.specs.Answers.{own_limit}
use Rattle.stepper.proofs.Stepping.{left_size}
use Rattle.flow.proofs.Answers.{told_made, told_refused}
use Rattle.flow.proofs.Running.{sound_here}
use Rattle.flow.proofs.step.Goals as goal

pub returns-in_err-jumped : goal.returns-in_err-jumped
returns-in_err-jumped c =
    let p = err_from_is_err_and c.from_residual.result c.from_residual.ensures.1 in
    rw (p.1, p.2)
    (told_refused (own_limit c.args.cells.now) _ (sound_here c.args.cells.now c.args.firsts.now c.args.seconds.now c.args.slots c.args.alu
    c.args.predicate c.args.booleans c.args.integers.now c.requires) c.step_at.ensures c.in_err-jumped.was)

pub bounds-cells-7 : goal.bounds-cells-7
bounds-cells-7 c =
    omega (arith, left_size c.requires.size c.step_at.ensures)

pub returns : goal.returns
returns c = told_made _ c.step_at.ensures c.in_ok-jumped.was
