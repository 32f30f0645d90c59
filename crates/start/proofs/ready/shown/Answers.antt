-- `start::ready::shown` meets its contract. Assumes nothing.
use Rattle.laws.proofs.Choice.{pick_yes, pick_no}
use mathlib.Core.Path.{sym}
use Rattle.start.proofs.ready.shown.Goals as goal

pub returns-then-owned : goal.returns-then-owned
returns-then-owned c = sym (pick_yes _ _ c.if-owned.true)

pub returns-else-owned : goal.returns-else-owned
returns-else-owned c = sym (pick_no _ _ c.if-owned.false)
