-- `judges::settings::is_window` meets its contract: words allowed by their kinds, and a window that is accepted. Assumes nothing.
use Rattle.state.specs.Lawful.{window}
use Rattle.judges.proofs.Joined.{together}
use Rattle.judges.proofs.settings.is_window.Goals as goal

pub returns : goal.returns
unfolding window
returns c =
    together c.is_allowed-first.ensures
    (together c.is_allowed-second.ensures
    (together c.is_allowed-third.ensures c.is_window-accepted.ensures))
