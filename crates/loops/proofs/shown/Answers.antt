-- `loops::shown` meets its contract: the first LOOP from the innermost loop on. Assumes nothing.
use Rattle.loops.specs.Loops.{loops_by}
use Rattle.loops.proofs.Stack.{shown0, shown1, shown2, shown3, shown_none}
use Rattle.loops.proofs.shown.Goals as goal

pub returns-then-l0-ge-LOOPING : goal.returns-then-l0-ge-LOOPING
returns-then-l0-ge-LOOPING c =
    shown0 (loops_by c.args.loops) c.requires c.if-l0-ge-LOOPING.true

pub returns-then-l1-ge-LOOPING : goal.returns-then-l1-ge-LOOPING
returns-then-l1-ge-LOOPING c =
    shown1 (loops_by c.args.loops) c.requires c.if-l0-ge-LOOPING.false c.if-l1-ge-LOOPING.true

pub returns-then-l2-ge-LOOPING : goal.returns-then-l2-ge-LOOPING
returns-then-l2-ge-LOOPING c =
    shown2 (loops_by c.args.loops) c.requires c.if-l0-ge-LOOPING.false c.if-l1-ge-LOOPING.false
    c.if-l2-ge-LOOPING.true

pub returns-then-l3-ge-LOOPING : goal.returns-then-l3-ge-LOOPING
returns-then-l3-ge-LOOPING c =
    shown3 (loops_by c.args.loops) c.requires c.if-l0-ge-LOOPING.false c.if-l1-ge-LOOPING.false
    c.if-l2-ge-LOOPING.false c.if-l3-ge-LOOPING.true

-- no LOOP is open
pub returns : goal.returns
returns c =
    shown_none (loops_by c.args.loops) c.requires c.if-l0-ge-LOOPING.false c.if-l1-ge-LOOPING.false
    c.if-l2-ge-LOOPING.false c.if-l3-ge-LOOPING.false
