-- `days::report::began` meets its contract. Assumes nothing.
use Rattle.days.proofs.Reports.{began_first, began_later}
use Rattle.days.proofs.report.began.Goals as goal

pub returns-then-k-eq0 : goal.returns-then-k-eq0
returns-then-k-eq0 c = rw (c.default.ensures.0, c.default.ensures.1) (began_first c.args.marks.now _ c.if-k-eq0.true)

pub returns-else-k-eq0 : goal.returns-else-k-eq0
returns-else-k-eq0 c = began_later c.args.marks.now c.args.k _ c.if-k-eq0.false c.mark.ensures
