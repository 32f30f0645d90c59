-- `trim::trim` meets its contract. Assumes nothing.
use Rattle.trim.proofs.Cells.{all_cut, nothing_cut}
use Rattle.trim.proofs.trim.Goals as goal

pub returns-then-midnights-gt0 : goal.returns-then-midnights-gt0
returns-then-midnights-gt0 c =
    all_cut _ _ _ _ c.requires c.if-midnights-gt0.true c.began-last.ensures c.saturating_sub.ensures _ c.keep.ensures

pub returns-else-midnights-gt0 : goal.returns-else-midnights-gt0
returns-else-midnights-gt0 c = nothing_cut _ _ c.requires c.if-midnights-gt0.false
