-- `loops::close_rep` meets its contract: each return is the turn as far as the tests on the way decide it. Assumes nothing.
use Rattle.loops.specs.Loops.{loops_by}
use Rattle.loops.proofs.Stack.{rep_none, rep_other, rep_last, rep_again}
use Rattle.loops.proofs.close_rep.Goals as goal

-- none is open
pub returns-then-l0-eq0 : goal.returns-then-l0-eq0
returns-then-l0-eq0 c =
    rep_none (loops_by c.args.loops) c.requires c.if-l0-eq0.true

-- a LOOP is
pub returns-then-l0-ge-LOOPING : goal.returns-then-l0-ge-LOOPING
returns-then-l0-ge-LOOPING c =
    rep_other (loops_by c.args.loops) c.requires c.if-l0-ge-LOOPING.true

-- its last turn
pub returns-then-l0-eq1 : goal.returns-then-l0-eq1
returns-then-l0-eq1 c =
    rep_last (loops_by c.args.loops) c.requires c.if-l0-eq1.true

-- a turn is left
pub returns : goal.returns
returns c =
    rep_again (loops_by c.args.loops) c.requires c.if-l0-eq0.false c.if-l0-ge-LOOPING.false
    c.if-l0-eq1.false
