-- `owners::may_open` meets its contract. Assumes nothing.
use mathlib.Core.Path.{◌∙◌}
use Rattle.owners.proofs.Places.{common_owned, common_asked}
use Rattle.owners.proofs.may_open.Goals as goal

pub returns-then-is_on : goal.returns-then-is_on
returns-then-is_on c = c.if-is_on.true ∙ common_owned _ _ c.is_on.ensures c.if-is_on.true

pub returns-else-is_on : goal.returns-else-is_on
returns-else-is_on c = common_asked _ _ c.requires c.is_on.ensures c.if-is_on.false c.is_on-else-is_on.ensures
