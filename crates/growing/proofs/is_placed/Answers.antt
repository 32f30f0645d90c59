-- `growing::is_placed` meets its contract. Assumes nothing.
use mathlib.Core.Path.{sym}
use borrow.Author.Tests.{eq-eqb, ne_eqb}
use Rattle.laws.proofs.Choice.{pick_yes, pick_no}
use Rattle.growing.specs.Sums.{is_placed}
use Rattle.growing.proofs.is_placed.Goals as goal

pub returns-then-owed-eq0 : goal.returns-then-owed-eq0
unfolding is_placed
returns-then-owed-eq0 c = sym (pick_yes _ _ (eq-eqb _ 0 c.if-owed-eq0.true))

pub returns-else-owed-eq0 : goal.returns-else-owed-eq0
unfolding is_placed
returns-else-owed-eq0 c = sym (pick_no _ _ (ne_eqb _ 0 c.if-owed-eq0.false))
