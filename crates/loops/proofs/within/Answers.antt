-- `loops::within` meets its contract: by the sign of the step. Assumes nothing.
use mathlib.Core.Path.{sym}
use borrow.Author.Tests.{lt-ltb, le-ltb}
use Rattle.laws.proofs.Choice.{pick_yes, pick_no}
use Rattle.loops.specs.Loops.{stays}
use Rattle.loops.proofs.within.Goals as goal

pub returns-then-step-lt-NEGATIVE : goal.returns-then-step-lt-NEGATIVE
unfolding stays
returns-then-step-lt-NEGATIVE c = sym (pick_yes _ _ (lt-ltb _ _ c.if-step-lt-NEGATIVE.true))

pub returns : goal.returns
unfolding stays
returns c = sym (pick_no _ _ (le-ltb _ _ c.if-step-lt-NEGATIVE.false))
