-- `loops::enter` meets its contract: each return is the turn as far as the tests on the way decide it. Assumes nothing.
use Rattle.loops.specs.Loops.{loops_by}
use Rattle.loops.proofs.Stack.{open_past, open_full, open_more}
use Rattle.loops.proofs.enter.Goals as goal

-- no turn to make
pub returns-then-word-eq0 : goal.returns-then-word-eq0
returns-then-word-eq0 c =
    open_past c.args.looping c.args.word (loops_by c.args.loops)
    c.requires.1 c.if-word-eq0.true

-- four are open
pub returns-then-l3-ne0 : goal.returns-then-l3-ne0
returns-then-l3-ne0 c =
    open_full c.args.looping c.args.word (loops_by c.args.loops)
    c.requires.1 c.if-word-eq0.false c.if-l3-ne0.true

-- the loop is pushed
pub returns : goal.returns
returns c =
    open_more c.args.looping c.args.word (loops_by c.args.loops)
    c.requires.1 c.if-word-eq0.false c.if-l3-ne0.false c.entry.ensures
