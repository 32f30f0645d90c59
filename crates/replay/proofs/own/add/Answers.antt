-- `replay::own::add` meets its contract. Assumes nothing.
use Rattle.replay.proofs.Changes.{added}
use Rattle.replay.proofs.own.add.Goals as goal

pub returns : goal.returns
returns c = added _ _ _ c.requires
