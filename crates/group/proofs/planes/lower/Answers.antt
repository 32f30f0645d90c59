-- `group::planes::lower` meets its contract: the borrow chain is the decrement of each idle counter. Assumes nothing.
use Rattle.group.proofs.Places.{lower_words}
use Rattle.group.proofs.planes.lower.Goals as goal

pub returns : goal.returns
returns c =
    lower_words c.requires.1 c.args.count c.requires.0 c.spread-c0.ensures
    c.spread-c1.ensures c.spread-c2.ensures c.spread-c3.ensures
    c.spread-c4.ensures
