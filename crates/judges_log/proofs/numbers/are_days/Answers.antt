-- `judges_log::numbers::are_days` meets its contract: by whether a midnight has come. Assumes nothing.
use mathlib.Core.Path.{sym, ◌∙◌}
use borrow.Author.Tests.{eq-eqb, ne_eqb}
use Rattle.laws.proofs.Choice.{pick_yes, pick_no}
use Rattle.judges_log.specs.Judged.{days_by}
use Rattle.judges_log.proofs.numbers.are_days.Reads as reads
use Rattle.judges_log.proofs.numbers.are_days.Lts as lts
use Rattle.judges.proofs.tests.both.Reads as both_reads
use Rattle.judges_log.proofs.numbers.are_days.Goals as goal

pub returns-then-midnights-eq0 : goal.returns-then-midnights-eq0
unfolding days_by
returns-then-midnights-eq0 c = sym (pick_yes _ _ (eq-eqb _ _ c.if-midnights-eq0.true))

pub returns : goal.returns
unfolding days_by
returns c = (rw (c.from.ensures, c.from-2.ensures) at c.both.ensures) ∙ sym (pick_no _ _ (ne_eqb _ _ c.if-midnights-eq0.false))
