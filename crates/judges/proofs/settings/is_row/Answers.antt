-- `judges::settings::is_row` meets its contract: a buffer of height 1. Assumes nothing.
use mathlib.Core.Path.{refl}
use Rattle.state.specs.Lawful.{lawful_row}
use Rattle.judges.proofs.Joined.{together}
use Rattle.judges.proofs.settings.is_row.Goals as goal

pub returns : goal.returns
unfolding lawful_row
returns c = together c.is_buffer.ensures refl
