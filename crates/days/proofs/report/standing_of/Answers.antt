-- `days::report::standing_of` meets its contract. Assumes nothing.
use Rattle.days.proofs.Reports.{standing}
use Rattle.days.proofs.report.standing_of.Goals as goal

pub returns : goal.returns
returns c = standing _ _ c.first_day-first.ensures
