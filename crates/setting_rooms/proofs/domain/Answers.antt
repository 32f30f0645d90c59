-- `setting_rooms::domain` meets its contract: the domain as the session has it. Assumes nothing.
use mathlib.Core.Path.{◌∙◌}
use Rattle.setting_rooms.proofs.Formats.{domain_shows, flag_from}
use Rattle.setting_rooms.proofs.domain.Goals as goal

pub returns : goal.returns
returns c = domain_shows _ _ _ c.domain-bounds.ensures (c.from-set.ensures ∙ flag_from _)
