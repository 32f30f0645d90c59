-- `judges_log::numbers::is_refused` meets its contract: by whether there is one. Assumes nothing.
use mathlib.Core.Path.{sym}
use borrow.Author.Tests.{eq-eqb, ne_eqb}
use Rattle.laws.proofs.Choice.{pick_yes, pick_no}
use Rattle.judges_log.specs.Judged.{refused_by}
use Rattle.judges_log.proofs.numbers.is_refused.Reads as reads
use Rattle.judges_log.proofs.numbers.is_refused.Lts as lts
use Rattle.judges_log.proofs.numbers.is_refused.Goals as goal

pub returns-then-number-eq0 : goal.returns-then-number-eq0
unfolding refused_by
returns-then-number-eq0 c = sym (pick_yes _ _ (eq-eqb _ _ c.if-number-eq0.true))

pub returns : goal.returns
unfolding refused_by
returns c = sym (pick_no _ _ (ne_eqb _ _ c.if-number-eq0.false))
