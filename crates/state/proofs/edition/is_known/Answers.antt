-- `state::edition::is_known` meets its contract. Assumes nothing.
use mathlib.Core.Path.{sym, ◌∙◌}
use borrow.Author.Tests.{eq-eqb, ne_eqb}
use Rattle.laws.proofs.Choice.{pick_yes, pick_no}
use Rattle.state.specs.Start.{is_edition}
use Rattle.state.proofs.edition.is_known.Goals as goal

pub returns-then-edition-eq-BY_OUTPUT : goal.returns-then-edition-eq-BY_OUTPUT
unfolding is_edition
returns-then-edition-eq-BY_OUTPUT c =
    eq-eqb _ 1 c.if-edition-eq-BY_OUTPUT.true ∙ sym (pick_yes _ _ (eq-eqb _ 1 c.if-edition-eq-BY_OUTPUT.true))

pub returns-else-edition-eq-BY_OUTPUT : goal.returns-else-edition-eq-BY_OUTPUT
unfolding is_edition
returns-else-edition-eq-BY_OUTPUT c = sym (pick_no _ _ (ne_eqb _ 1 c.if-edition-eq-BY_OUTPUT.false))
