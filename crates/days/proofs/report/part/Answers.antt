-- `days::report::part` meets its contract. Assumes nothing.
use Rattle.replay.specs.Cells.{viewed}
use Rattle.days.proofs.Reports.{part_none, part_some}
use Rattle.days.proofs.report.part.Goals as goal

pub returns-then-midnights-k : goal.returns-then-midnights-k
returns-then-midnights-k c =
    unfold viewed in rw (c.default.ensures.0, c.default.ensures.1) (part_none _ _ _ _ c.if-midnights-k.true)

pub returns : goal.returns
returns c =
    unfold viewed in part_some _ _ _ _ c.if-midnights-k.false _ _ c.began-from.ensures c.ended-to.ensures _ _
    c.saturating_sub.ensures c.saturating_sub-2.ensures
