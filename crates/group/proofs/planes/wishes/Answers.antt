-- `group::planes::wishes` meets its contract: four of JUMP_FUNC's bits, each at the processors whose mask bits pick it. Assumes nothing.
use Rattle.group.proofs.Places.{wishes_word}
use Rattle.group.proofs.planes.wishes.Goals as goal

pub returns : goal.returns
returns c =
    let a = c.args in
    wishes_word a.func a.alu a.boolean a.predicate c.requires
    c.ranges.alu.fits c.ranges.predicate.fits
    c.spread-neither.ensures c.spread-second.ensures c.spread-first.ensures
    c.spread-both.ensures
