-- `fleet::parts::add` meets its contract. Assumes nothing.
use Rattle.fleet.proofs.Adding.{all_added}
use Rattle.fleet.proofs.parts.next_part.Reads as next_part_reads
use Rattle.fleet.proofs.parts.add.Goals as goal

pub returns : goal.returns
returns c = all_added _ _ _ _ _ c.next_part.ensures
