-- `command::format::pitch` meets its contract: the definition itself. Assumes nothing.
use mathlib.Core.Path.{refl}
use Rattle.command.specs.Format.{pitch_of}
use Rattle.command.proofs.format.pitch.Goals as goal

pub returns : goal.returns
unfolding pitch_of
returns c = refl
