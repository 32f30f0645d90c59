-- `group::planes::upper_bits` meets its contract: a word of the places that have both bits. Assumes nothing.
use Rattle.group.proofs.Places.{upper_word}
use Rattle.group.proofs.planes.upper_bits.Goals as goal

pub returns : goal.returns
returns c = upper_word c.args.p3 c.args.p4 c.ranges.p3.fits c.ranges.p4.fits
