-- `loops::moved` meets its contract: by the sign of the step. Assumes nothing.
use mathlib.Core.Path.{sym}
use native.Mathlib.Omega.{arith}
use borrow.Author.Tests.{lt-ltb, le-ltb}
use Rattle.laws.proofs.Choice.{pick_yes, pick_no}
use Rattle.loops.specs.Loops.{moved_to}
use Rattle.loops.proofs.Stack.{stays_up, stays_down}
use Rattle.loops.proofs.moved.Goals as goal

pub returns-then-step-lt-NEGATIVE : goal.returns-then-step-lt-NEGATIVE
unfolding moved_to
returns-then-step-lt-NEGATIVE c =
    (sym (pick_yes _ _ (lt-ltb _ _ c.if-step-lt-NEGATIVE.true)), stays_up c.args.al c.args.step c.requires.2 c.if-step-lt-NEGATIVE.true)

pub overflow_sub-result : goal.overflow_sub-result
overflow_sub-result c =
    stays_down c.args.al c.args.step c.requires.2 c.if-step-lt-NEGATIVE.false

pub returns : goal.returns
unfolding moved_to
returns c = (sym (pick_no _ _ (le-ltb _ _ c.if-step-lt-NEGATIVE.false)), omega arith)
