-- `judges::readiness::are_same` meets its contract: number by number. Assumes nothing.
use mathlib.Core.Path.{refl, ◌∙◌}
use native.Mathlib.Omega.{arith}
use Rattle.judges.proofs.Joined.{together, one_more, none_yet, all_tested}
use Rattle.judges.proofs.Windows.{numbers_listed}
use Rattle.judges.proofs.readiness.are_same.Goals as goal

pub loop-k-init : goal.loop-k-init
loop-k-init c = (omega arith, none_yet _)

pub loop-k-preserved : goal.loop-k-preserved
loop-k-preserved c =
    (omega arith, together c.loop-k.invariant.1 refl ∙ one_more _ _)

pub returns : goal.returns
returns c = all_tested _ c.loop-k.invariant.1 (omega arith) ∙ numbers_listed _ _
