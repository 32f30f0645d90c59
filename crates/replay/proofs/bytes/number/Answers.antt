-- `replay::bytes::number` meets its contract. Assumes nothing.
use mathlib.Core.Path.{refl}
use Rattle.replay.specs.Step.{number_from}
use Rattle.replay.proofs.bytes.number.Goals as goal

pub returns : goal.returns
returns c = unfold number_from in refl
