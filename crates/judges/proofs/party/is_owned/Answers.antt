-- `judges::party::is_owned` meets its contract: the header, and the number where it was taken. Assumes nothing.
use mathlib.Core.Path.{sym, ◌∙◌}
use native.Mathlib.Omega.{arith}
use borrow.Author.Tests.{lt-ltb, le-ltb}
use Rattle.laws.proofs.Choice.{pick_yes, pick_no}
use Rattle.judges.specs.Judged.{owned_by}
use Rattle.judges.proofs.Joined.{together}
use Rattle.judges.proofs.party.is_owned.Goals as goal

pub may_name-requires : goal.may_name-requires
may_name-requires c = ((c.requires.0, omega arith), c.requires.1 c.if-count-gt0.true)

pub returns-then-count-gt0 : goal.returns-then-count-gt0
unfolding owned_by
returns-then-count-gt0 c =
    together c.may_open.ensures c.may_name.ensures
    ∙ sym (pick_yes _ _ (lt-ltb _ _ c.if-count-gt0.true))

pub returns-else-count-gt0 : goal.returns-else-count-gt0
unfolding owned_by
returns-else-count-gt0 c = c.may_open-else-count-gt0.ensures ∙ sym (pick_no _ _ (le-ltb _ _ c.if-count-gt0.false))
