-- `judges_group::starting` meets its contract: a word of the places of either. Assumes nothing.
use Rattle.judges_group.proofs.Words.{starting_word}
use Rattle.judges_group.proofs.starting.Goals as goal

pub returns : goal.returns
returns c = starting_word c.args.live c.args.killed c.ranges.live.fits c.ranges.killed.fits
