-- `judges::party::is_closed` meets its contract: all numbers are 0. Assumes nothing.
use mathlib.Core.Path.{refl}
use Rattle.judges.specs.Judged.{closed_by}
use Rattle.judges.proofs.Joined.{both_is, together}
use Rattle.judges.proofs.party.is_closed.Goals as goal

pub returns : goal.returns
unfolding closed_by
returns c =
    together refl
    (together refl
    (together refl (both_is _ _)))
