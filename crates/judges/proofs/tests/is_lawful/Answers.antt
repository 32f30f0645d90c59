-- `judges::tests::is_lawful` meets its contract: by the flag. Assumes nothing.
use mathlib.Core.Path.{sym, ◌∙◌}
use borrow.Author.Tests.{eq-eqb, ne_eqb}
use Rattle.judges.proofs.Joined.{both_is}
use Rattle.laws.proofs.Choice.{pick_yes, pick_no}
use Rattle.state.specs.Lawful.{lawful}
use Rattle.judges.proofs.tests.is_lawful.Goals as goal

pub returns-then-flag-eq0 : goal.returns-then-flag-eq0
unfolding lawful
returns-then-flag-eq0 c = sym (pick_yes _ _ (eq-eqb _ _ c.if-flag-eq0.true))

pub returns-else-flag-eq0 : goal.returns-else-flag-eq0
unfolding lawful
returns-else-flag-eq0 c = both_is _ _ ∙ sym (pick_no _ _ (ne_eqb _ _ c.if-flag-eq0.false))
