-- `judges_group::stacked` meets its contract: a 0, or another cell and the rest. Assumes nothing.
use mathlib.Core.Path.{sym, ◌∙◌}
use borrow.Author.Tests.{eq-eqb, ne_eqb}
use Rattle.laws.proofs.Choice.{pick_yes, pick_no}
use Rattle.judges_group.proofs.Words.{both_tests}
use Rattle.judges_group.proofs.stacked.Goals as goal

pub returns-then-cell-eq0 : goal.returns-then-cell-eq0
returns-then-cell-eq0 c = sym (pick_yes _ _ (eq-eqb _ _ c.if-cell-eq0.true))

pub returns : goal.returns
returns c = both_tests c.args.good c.args.rest ∙ sym (pick_no _ _ (ne_eqb _ _ c.if-cell-eq0.false))
