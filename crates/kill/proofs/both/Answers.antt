-- `kill::both` meets its contract: those of both, place by place. Assumes nothing.
use Rattle.kill.proofs.Words.{both_word}
use Rattle.kill.proofs.both.Goals as goal

pub returns : goal.returns
returns c = both_word c.args.a c.args.b c.ranges.a.fits c.ranges.b.fits
