-- `replay::own::stop` meets its contract. Assumes nothing.
use Rattle.replay.proofs.Changes.{stops}
use Rattle.replay.proofs.own.stop.Goals as goal

pub returns : goal.returns
returns c = stops _ _ _ c.told-log c.close.ensures
