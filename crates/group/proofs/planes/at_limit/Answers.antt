-- `group::planes::at_limit` meets its contract: a counter is 31 when all of its bits are set. Assumes nothing.
use Rattle.group.proofs.Places.{limit_word}
use Rattle.group.proofs.planes.at_limit.Goals as goal

pub returns : goal.returns
returns c =
    let a = c.args in
    let f = c.ranges in
    limit_word a.p0 a.p1 a.p2 a.p3 a.p4 f.p0.fits f.p1.fits f.p2.fits f.p3.fits
    f.p4.fits
