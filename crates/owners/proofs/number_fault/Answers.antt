-- `owners::number_fault` meets its contract. Assumes nothing.
use Rattle.laws.proofs.Choice.{pick_yes, pick_no}
use borrow.Author.Tests.{le-leb, lt-leb}
use mathlib.Core.Path.{sym}
use Rattle.owners.proofs.number_fault.Goals as goal

pub returns-then-word-most : goal.returns-then-word-most
returns-then-word-most c = sym (pick_yes _ _ (le-leb _ _ c.if-word-most.true))

pub returns-else-word-most : goal.returns-else-word-most
returns-else-word-most c = sym (pick_no _ _ (lt-leb _ _ c.if-word-most.false))
