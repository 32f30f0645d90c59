-- `command::format::superfine` meets its contract: the definition itself. Assumes nothing.
use mathlib.Core.Path.{refl}
use Rattle.command.specs.Format.{superfine_of}
use Rattle.command.proofs.format.superfine.Goals as goal

pub returns : goal.returns
unfolding superfine_of
returns c = refl
