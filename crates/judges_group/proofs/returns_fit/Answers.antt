-- `judges_group::returns_fit` meets its contract: the stack's test with each cell's own. Assumes nothing.
use Rattle.judges_group.specs.Judged.{returns_fit}
use Rattle.judges_group.proofs.returns_fit.Goals as goal

pub returns : goal.returns
unfolding returns_fit
returns c = c.stack.ensures
