-- `judges::tests::both` meets its contract. Assumes nothing.
use Rattle.judges.proofs.Joined.{both_is}
use Rattle.judges.proofs.tests.both.Goals as goal

pub returns : goal.returns
returns c = both_is _ _
