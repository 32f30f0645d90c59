-- `memory::copy::refused` meets its contract: zeros alone. Assumes nothing.
use mathlib.Core.Path.{refl}
use Rattle.memory.specs.Answers.{filled}
use Rattle.memory.proofs.copy.refused.Goals as goal

pub returns : goal.returns
unfolding filled
returns c = record { told = refl; count = refl; whole = refl; bytes = refl }
