-- `judges_group::counters_fit` meets its contract: the mode, then the counters. Assumes nothing.
use mathlib.Core.Path.{sym, ◌∙◌}
use borrow.Author.Tests.{eq-eqb, ne_eqb}
use Rattle.laws.proofs.Choice.{pick_yes, pick_no}
use Rattle.judges_group.specs.Judged.{counters_fit}
use Rattle.judges_group.proofs.counters_fit.Goals as goal

pub returns-then-mode-eq-PARTIAL : goal.returns-then-mode-eq-PARTIAL
unfolding counters_fit
returns-then-mode-eq-PARTIAL c = c.low_counters.ensures ∙ sym (pick_yes _ _ (eq-eqb _ _ c.if-mode-eq-PARTIAL.true))

pub returns : goal.returns
unfolding counters_fit
returns c = sym (pick_no _ _ (ne_eqb _ _ c.if-mode-eq-PARTIAL.false))
