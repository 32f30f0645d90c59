-- `group::planes::at_partial` meets its contract: which bits a counter of 5 or above has. Assumes nothing.
use Rattle.group.proofs.Places.{partial_word}
use Rattle.group.proofs.planes.at_partial.Goals as goal

pub returns : goal.returns
returns c =
    let a = c.args in
    let f = c.ranges in
    partial_word a.p0 a.p1 a.p2 a.p3 a.p4 f.p0.fits f.p1.fits f.p2.fits f.p3.fits
    f.p4.fits
