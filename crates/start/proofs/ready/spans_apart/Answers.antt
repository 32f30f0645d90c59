-- `start::ready::spans_apart` meets its contract: both ends fit 64 bits. Assumes nothing.
use Rattle.start.specs.Windows.{spans_apart}
use Rattle.start.proofs.Readiness.{either_is}
use Rattle.start.proofs.ready.spans_apart.Goals as goal

pub returns : goal.returns
unfolding spans_apart
returns c = either_is _ _
