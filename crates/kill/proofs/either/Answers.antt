-- `kill::either` meets its contract: those of either, place by place. Assumes nothing.
use Rattle.kill.proofs.Words.{either_word}
use Rattle.kill.proofs.either.Goals as goal

pub returns : goal.returns
returns c = either_word c.args.a c.args.b c.ranges.a.fits c.ranges.b.fits
