-- `command::kinds::check` meets its contract: the two cases of the definition. Assumes nothing.
use mathlib.Core.Path.{sym, ◌∙◌}
use Rattle.command.proofs.Words.{check_fine, check_refused}
use Rattle.command.proofs.kinds.check.Goals as goal

pub returns-then-is_allowed : goal.returns-then-is_allowed
returns-then-is_allowed c = sym (check_fine _ _ (sym c.is_allowed.ensures ∙ c.if-is_allowed.true))

pub returns-else-is_allowed : goal.returns-else-is_allowed
returns-else-is_allowed c = sym (check_refused _ _ _ (sym c.is_allowed.ensures ∙ c.if-is_allowed.false) c.fault.ensures)
