-- `judges_log::numbers::is_byte` meets its contract: a byte where it has come, else 0. Assumes nothing.
use mathlib.Core.Path.{sym}
use borrow.Author.Tests.{lt-ltb, le-ltb}
use Rattle.laws.proofs.Choice.{pick_yes, pick_no}
use Rattle.judges_log.specs.Judged.{byte_by}
use Rattle.judges_log.proofs.numbers.is_byte.Reads as reads
use Rattle.judges_log.proofs.numbers.is_byte.Lts as lts
use Rattle.judges_log.proofs.numbers.is_byte.Goals as goal

pub returns-then-k-count : goal.returns-then-k-count
unfolding byte_by
returns-then-k-count c = sym (pick_yes _ _ (lt-ltb _ _ c.if-k-count.true))

pub returns-else-k-count : goal.returns-else-k-count
unfolding byte_by
returns-else-k-count c = sym (pick_no _ _ (le-ltb _ _ c.if-k-count.false))
