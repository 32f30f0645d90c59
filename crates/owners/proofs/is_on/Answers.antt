-- `owners::is_on` meets its contract. Assumes nothing.
use Rattle.laws.specs.Masks.{on}
use mathlib.Core.Path.{refl}
use Rattle.owners.proofs.is_on.Goals as goal

pub returns : goal.returns
returns c = unfold on in refl
