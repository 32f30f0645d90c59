-- `judges::party::is_tally` meets its contract: no more than the words can have claimed. Assumes nothing.
use Rattle.judges.proofs.Joined.{both_is}
use Rattle.judges.specs.Judged.{tally_by}
use Rattle.judges.proofs.party.is_tally.Goals as goal

pub returns : goal.returns
unfolding tally_by
returns c = both_is _ _
