-- `judges::settings::are_masks` meets its contract: masks and the test. Assumes nothing.
use mathlib.Core.Path.{refl}
use Rattle.state.specs.Cells.{shared_of}
use Rattle.judges.specs.Judged.{masks_by}
use Rattle.judges.proofs.Joined.{together}
use Rattle.judges.proofs.settings.are_masks.Goals as goal

pub returns : goal.returns
unfolding masks_by shared_of
returns c =
    together refl (together c.is_word-conditional.ensures c.is_word-test.ensures)
