-- `group::planes::turn` meets its contract: the word is B_ELSE's at each processor. Assumes nothing.
use Rattle.group.proofs.Places.{turn_word}
use Rattle.group.proofs.planes.turn.Goals as goal

pub returns : goal.returns
returns c = turn_word c.requires
