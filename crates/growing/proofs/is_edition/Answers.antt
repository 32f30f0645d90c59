-- `growing::is_edition` meets its contract. Assumes nothing.
use mathlib.Core.Path.{sym, ap, ◌∙◌}
use lib.Dec.{eqb}
use borrow.Author.Tests.{eq-eqb, ne_eqb}
use Rattle.laws.proofs.Choice.{pick_yes, pick_no}
use Rattle.state.specs.Start.{is_edition}
use Rattle.growing.proofs.is_edition.Goals as goal

pub returns-then-number-from : goal.returns-then-number-from
unfolding is_edition
returns-then-number-from c =
    eq-eqb _ _ c.if-number-from.true ∙ sym (pick_yes _ _ (eq-eqb _ 1 (c.if-number-from.true ∙ c.from.ensures)))

pub returns-else-number-from : goal.returns-else-number-from
unfolding is_edition
returns-else-number-from c =
    ap (eqb c.args.number) c.from-else-number-from.ensures ∙
    sym (pick_no _ _ (ne_eqb _ 1 (λ e. c.if-number-from.false (e ∙ sym c.from.ensures))))
