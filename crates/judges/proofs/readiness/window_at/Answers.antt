-- `judges::readiness::window_at` meets its contract: that of the words where the output is the party's own, none where it isn't. Assumes nothing.
use Rattle.judges.proofs.Windows.{own_window, others_window}
use Rattle.judges.proofs.readiness.window_at.Goals as goal

pub returns-then-owned : goal.returns-then-owned
returns-then-owned c = own_window _ _ c.if-owned.true (rw c.window_of.ensures at c.unwrap_or.ensures)

pub returns-else-owned : goal.returns-else-owned
returns-else-owned c = others_window _ c.if-owned.false
