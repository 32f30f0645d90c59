-- `setting_rooms::standing` meets its contract: what the session's own cells say. Assumes nothing.
use mathlib.Core.Path.{refl, ◌∙◌}
use Rattle.state.specs.Cells.{party_of}
use Rattle.setting_rooms.proofs.Formats.{standing_shows, flag_from}
use Rattle.setting_rooms.proofs.standing.Goals as goal

pub returns : goal.returns
unfolding party_of
returns c =
    standing_shows _ _ _ _ _ _ _ _ _ refl (c.from-stopped.ensures ∙ flag_from _) c.is_stopped.ensures c.open_header-header.ensures
    c.open_line.ensures c.open_count.ensures c.readiness.ensures
    c.edition.ensures
