-- `start::ready::extent_left` meets its contract. Assumes nothing.
use Rattle.start.proofs.Readiness.{extent_counted, extent_uncounted}
use Rattle.start.proofs.ready.extent_left.Goals as goal

pub returns-then-counts : goal.returns-then-counts
returns-then-counts c = extent_counted _ c.if-counts.true

pub returns-else-counts : goal.returns-else-counts
returns-else-counts c = extent_uncounted _ c.if-counts.false
