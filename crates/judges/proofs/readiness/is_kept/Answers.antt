-- `judges::readiness::is_kept` meets its contract: the numbers that are kept, compared with those that are worked out. Assumes nothing.
use Rattle.judges.proofs.Windows.{kept_told}
use Rattle.judges.proofs.readiness.is_kept.Goals as goal

pub returns : goal.returns
returns c = kept_told _ _ _ c.work_out.ensures c.are_same.ensures
