-- `judges_group::loops_fit` meets its contract: the stack's test with each cell's own. Assumes nothing.
use mathlib.Core.Path.{◌∙◌}
use Rattle.judges_group.specs.Judged.{stack_of, loops_fit}
use Rattle.judges_group.proofs.loops_fit.Goals as goal

pub returns : goal.returns
unfolding loops_fit
returns c =
    let a = c.args in
    c.stack.ensures ∙
    (λ j.
    stack_of a.l0 a.l1 a.l2 a.l3 (c.loop_fits-f0.ensures j) (c.loop_fits-f1.ensures j)
    (c.loop_fits-f2.ensures j) (c.loop_fits-f3.ensures j))
