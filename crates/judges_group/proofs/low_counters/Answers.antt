-- `judges_group::low_counters` meets its contract: a word of the places whose counter is too high. Assumes nothing.
use Rattle.judges_group.proofs.Words.{high_word}
use Rattle.judges_group.proofs.low_counters.Goals as goal

pub returns : goal.returns
returns c =
    let a = c.args in
    let f = c.ranges in
    high_word a.p1 a.p2 a.p3 a.p4 f.p1.fits f.p2.fits f.p3.fits f.p4.fits
