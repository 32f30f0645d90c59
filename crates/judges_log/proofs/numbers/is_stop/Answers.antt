-- `judges_log::numbers::is_stop` meets its contract: none, 18 or 19. Assumes nothing.
use mathlib.Core.Path.{sym, ◌∙◌}
use borrow.Author.Tests.{eq-eqb, ne_eqb}
use Rattle.laws.proofs.Choice.{pick_yes, pick_no}
use Rattle.judges_log.specs.Judged.{stop_by}
use Rattle.judges_log.proofs.numbers.is_stop.Reads as reads
use Rattle.judges_log.proofs.numbers.is_stop.Lts as lts
use Rattle.judges.proofs.tests.both.Reads as both_reads
use Rattle.judges_log.proofs.numbers.is_stop.Goals as goal

pub returns-then-number-eq0 : goal.returns-then-number-eq0
unfolding stop_by
returns-then-number-eq0 c = sym (pick_yes _ _ (eq-eqb _ _ c.if-number-eq0.true))

pub returns-then-number-eq-BY_KIND : goal.returns-then-number-eq-BY_KIND
unfolding stop_by
returns-then-number-eq-BY_KIND c = sym (pick_no _ _ (ne_eqb _ _ c.if-number-eq0.false) ∙ pick_yes _ _ (eq-eqb _ _ c.if-number-eq-BY_KIND.true))

pub returns : goal.returns
unfolding stop_by
returns c = c.both.ensures ∙ sym (pick_no _ _ (ne_eqb _ _ c.if-number-eq0.false) ∙ pick_no _ _ (ne_eqb _ _ c.if-number-eq-BY_KIND.false))
