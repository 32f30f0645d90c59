-- `command::format::code` meets its contract: the definition itself. Assumes nothing.
use mathlib.Core.Path.{refl}
use Rattle.command.specs.Format.{code_of}
use Rattle.command.proofs.format.code.Goals as goal

pub returns : goal.returns
unfolding code_of
returns c = refl
