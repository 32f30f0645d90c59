-- `group::planes::spread` meets its contract: 0 or 1 times a word of ones. Assumes nothing.
use Rattle.group.proofs.Places.{spread_word}
use Rattle.group.proofs.planes.spread.Goals as goal

pub returns : goal.returns
returns c = spread_word c.args.bit c.requires
