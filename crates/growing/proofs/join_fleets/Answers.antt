-- `growing::join_fleets` meets its contract. Assumes nothing.
use Rattle.growing.proofs.Adding.{joined_fleet}
use Rattle.growing.proofs.join_fleets.Goals as goal

pub returns : goal.returns
returns c = joined_fleet _ _ _ c.next_part.ensures
