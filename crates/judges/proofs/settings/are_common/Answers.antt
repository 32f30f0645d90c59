-- `judges::settings::are_common` meets its contract: the constants and the conditional output. Assumes nothing.
use Rattle.state.specs.Cells.{shared_of}
use Rattle.judges.specs.Judged.{common_by}
use Rattle.judges.proofs.Joined.{together}
use Rattle.judges.proofs.settings.are_common.Goals as goal

pub returns : goal.returns
unfolding common_by shared_of
returns c =
    together c.is_row_at-floats.ensures
    (together c.is_row_at-integers.ensures
    (together c.is_row_at-booleans.ensures c.is_buffer_at-conditional.ensures))
