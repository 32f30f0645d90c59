-- `judges_log::marks::is_rest` meets its contract: 0 where its midnight hasn't come. Assumes nothing.
use mathlib.Core.Path.{sym, ◌∙◌}
use borrow.Author.Tests.{lt-ltb, le-ltb}
use Rattle.laws.proofs.Choice.{pick_yes, pick_no}
use Rattle.judges_log.specs.Judged.{rest_at}
use Rattle.judges_log.proofs.marks.is_rest.Reads as reads
use Rattle.judges_log.proofs.marks.is_rest.Lts as lts
use Rattle.judges_log.proofs.marks.is_rest.Goals as goal

pub returns-then-k-midnights : goal.returns-then-k-midnights
unfolding rest_at
returns-then-k-midnights c = lt-ltb _ _ c.if-k-midnights.true ∙ sym (pick_yes _ _ (lt-ltb _ _ c.if-k-midnights.true))

pub returns-else-k-midnights : goal.returns-else-k-midnights
unfolding rest_at
returns-else-k-midnights c = sym (pick_no _ _ (le-ltb _ _ c.if-k-midnights.false))
