-- `memory::copy::one` meets its contract. Assumes nothing.
use Rattle.memory.proofs.Copies.{reading_of_one}
use Rattle.memory.proofs.copy.one.Goals as goal

pub returns : goal.returns
returns c = reading_of_one _ _ c.requires c.first-bytes.ensures
