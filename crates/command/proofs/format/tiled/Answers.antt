-- `command::format::tiled` meets its contract: the definition itself. Assumes nothing.
use mathlib.Core.Path.{refl}
use Rattle.command.specs.Format.{tiled_of}
use Rattle.command.proofs.format.tiled.Goals as goal

pub returns : goal.returns
unfolding tiled_of
returns c = refl
