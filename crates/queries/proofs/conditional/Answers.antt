-- `queries::conditional` meets its contract: it reads the cells that the view reads. Assumes nothing.
use Rattle.state.specs.Cells.{shared_of}
use Rattle.queries.proofs.conditional.Goals as goal

pub returns : goal.returns
unfolding shared_of
returns c = c.setting_at.ensures
