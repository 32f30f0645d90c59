-- `kill::without` meets its contract: those of the first alone, place by place. Assumes nothing.
use Rattle.kill.proofs.Words.{without_word}
use Rattle.kill.proofs.without.Goals as goal

pub returns : goal.returns
returns c = without_word c.args.a c.args.b c.ranges.a.fits c.ranges.b.fits
