-- `days::report::mark` meets its contract. Assumes nothing.
use Rattle.days.proofs.Reports.{mark_numbers}
use Rattle.days.proofs.report.mark.Goals as goal

pub returns : goal.returns
returns c =
    mark_numbers _ _ c.args.marks.now c.args.k c.number_at.ensures c.number_at-2.ensures
