-- `setting_rooms::masks` meets its contract: the masks and the test as the session has them. Assumes nothing.
use mathlib.Core.Path.{◌∙◌}
use Rattle.setting_rooms.proofs.Formats.{masks_shows, flag_from}
use Rattle.setting_rooms.proofs.masks.Goals as goal

pub returns : goal.returns
returns c =
    masks_shows _ _ _ _ _ _ _ _ c.mask.ensures (c.from-conditional.ensures ∙ flag_from _)
    c.has_conditional_mask.ensures c.conditional_mask.ensures (c.from-test.ensures ∙ flag_from _)
    c.has_test.ensures c.test.ensures
