-- `judges::party::is_birth` meets its contract: numbers that there are, and an edition. Assumes nothing.
use mathlib.Core.Path.{refl}
use Rattle.judges.specs.Judged.{birth_by}
use Rattle.judges.proofs.Joined.{together}
use Rattle.judges.proofs.party.is_birth.Goals as goal

pub returns : goal.returns
unfolding birth_by
returns c = together refl c.is_known.ensures
