-- `lessees::take_run` meets its contract. Assumes nothing.
use Rattle.lessees.proofs.Telling.{run_room, run_left}
use Rattle.lessees.proofs.take_run.Goals as goal

pub add-requires : goal.add-requires
add-requires c = run_room _ c.requires c.feed.ensures

pub returns : goal.returns
returns c = run_left _ c.feed.ensures c.add.ensures
