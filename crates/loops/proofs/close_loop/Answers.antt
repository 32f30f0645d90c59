-- `loops::close_loop` meets its contract: each return is the turn as far as the tests on the way decide it. Assumes nothing.
use mathlib.Core.Path.{sym, ◌∙◌}
use native.Mathlib.Omega.{arith}
use Rattle.loops.specs.Loops.{loops_by}
use Rattle.loops.proofs.Stack.{loop_none, some_turn, loop_last, loop_out, loop_again}
use Rattle.loops.proofs.close_loop.Goals as goal

-- no LOOP is the innermost
pub returns-then-l0-lt-LOOPING : goal.returns-then-l0-lt-LOOPING
returns-then-l0-lt-LOOPING c =
    loop_none (loops_by c.args.loops) c.requires c.if-l0-lt-LOOPING.true

-- its last turn
pub returns-then-count-eq1 : goal.returns-then-count-eq1
returns-then-count-eq1 c =
    loop_last (loops_by c.args.loops) c.requires c.if-l0-lt-LOOPING.false c.if-count-eq1.true

pub moved-next-requires : goal.moved-next-requires
moved-next-requires c = (omega arith, omega arith, sym c.within.ensures ∙ c.if-within.true)

pub overflow_sub-result : goal.overflow_sub-result
overflow_sub-result c =
    some_turn (loops_by c.args.loops) c.requires c.if-l0-lt-LOOPING.false

-- a turn is left, and aL stays
pub returns-then-within : goal.returns-then-within
returns-then-within c =
    loop_again (loops_by c.args.loops) c.requires c.if-l0-lt-LOOPING.false c.if-count-eq1.false
    (sym c.within.ensures ∙ c.if-within.true) c.moved-next.ensures.0

-- a turn is left, and aL would leave 0 to 255
pub returns : goal.returns
returns c =
    loop_out (loops_by c.args.loops) c.requires c.if-l0-lt-LOOPING.false c.if-count-eq1.false
    (sym c.within.ensures ∙ c.if-within.false)
