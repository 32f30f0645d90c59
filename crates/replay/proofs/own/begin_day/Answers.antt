-- `replay::own::begin_day` meets its contract. Assumes nothing.
use Rattle.replay.proofs.Changes.{begins}
use Rattle.replay.proofs.own.begin_day.Goals as goal

pub returns : goal.returns
returns c = begins _ _ _ _ c.told-log c.close.ensures
