-- `group::planes::raise` meets its contract: the carry chain is the increment of each idle counter. Assumes nothing.
use Rattle.group.proofs.Places.{raise_words}
use Rattle.group.proofs.planes.raise.Goals as goal

pub returns : goal.returns
returns c = raise_words c.requires c.args.jump c.args.wish c.leaving-leave.ensures
