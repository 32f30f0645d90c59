-- `group::planes::decides` meets its contract: the test on a word of masks is the test over the processors. Assumes nothing.
use Rattle.group.proofs.Places.{some_word, every_word_lem}
use Rattle.group.proofs.planes.decides.Goals as goal

pub returns-then-any : goal.returns-then-any
returns-then-any c =
    some_word c.args.active c.args.wish c.ranges.active.fits c.ranges.wish.fits c.if-any.true

pub returns-else-any : goal.returns-else-any
returns-else-any c =
    every_word_lem c.args.active c.args.wish c.ranges.active.fits c.ranges.wish.fits c.if-any.false
