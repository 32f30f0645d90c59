-- `judges_group::loop_fits` meets its contract: the kind of loop, then its count. Assumes nothing.
use mathlib.Core.Path.{sym}
use borrow.Author.Tests.{eq-eqb, ne_eqb}
use Rattle.laws.proofs.Choice.{pick_yes, pick_no}
use Rattle.judges_group.specs.Judged.{loop_fits}
use Rattle.judges_group.proofs.loop_fits.Goals as goal

pub returns-then-cell-eq1 : goal.returns-then-cell-eq1
unfolding loop_fits
returns-then-cell-eq1 c = sym (pick_yes _ _ (eq-eqb _ _ c.if-cell-eq1.true))

pub returns : goal.returns
unfolding loop_fits
returns c = sym (pick_no _ _ (ne_eqb _ _ c.if-cell-eq1.false))
