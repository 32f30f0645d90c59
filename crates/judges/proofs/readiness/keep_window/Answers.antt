-- `judges::readiness::keep_window` meets its contract: one output's window is kept. Assumes nothing.
use Rattle.judges.proofs.Windows.{window_kept_lem}
use Rattle.judges.proofs.readiness.keep_window.Goals as goal

pub returns : goal.returns
returns c =
    window_kept_lem _ _ _ c.requires c.set_window.ensures c.is_on-owned.ensures c.window_at-window.ensures
