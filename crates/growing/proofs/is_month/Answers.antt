-- `growing::is_month` meets its contract. Assumes nothing.
use mathlib.Core.Path.{sym, ◌∙◌}
use borrow.Author.Tests.{le-leb, lt-leb}
use Rattle.laws.proofs.Choice.{and_yes, and_no_left}
use Rattle.growing.specs.Sums.{is_month}
use Rattle.growing.proofs.is_month.Goals as goal

pub returns-else-owed-le-MOST_MONTH : goal.returns-else-owed-le-MOST_MONTH
unfolding is_month
returns-else-owed-le-MOST_MONTH c =
    lt-leb _ _ c.if-owed-le-MOST_MONTH.false ∙ sym (and_no_left _ (lt-leb _ _ c.if-owed-le-MOST_MONTH.false))

pub returns-then-served-owed : goal.returns-then-served-owed
unfolding is_month
returns-then-served-owed c =
    sym (and_yes _ (le-leb _ _ c.if-owed-le-MOST_MONTH.true) ∙ and_yes _ (le-leb _ _ c.if-served-owed.true))

pub returns-else-served-owed : goal.returns-else-served-owed
unfolding is_month
returns-else-served-owed c =
    lt-leb _ _ c.if-served-owed.false ∙
    sym (and_yes _ (le-leb _ _ c.if-owed-le-MOST_MONTH.true) ∙ and_no_left _ (lt-leb _ _ c.if-served-owed.false))
