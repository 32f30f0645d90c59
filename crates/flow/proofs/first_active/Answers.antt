-- `flow::first_active` meets its contract: the trailing zeros of the mask. Assumes nothing.
use Rattle.group.specs.Proc.{most_processors}
use Rattle.flow.proofs.Counting.{trailing_least}
use Rattle.flow.proofs.first_active.Goals as goal

pub returns : goal.returns
returns c = trailing_least most_processors c.args.active
