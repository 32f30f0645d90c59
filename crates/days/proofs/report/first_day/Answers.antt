-- `days::report::first_day` meets its contract. Assumes nothing.
use native.Mathlib.Omega.{arith}
use Rattle.days.proofs.Reports.{no_day, first_day_lem}
use Rattle.days.proofs.report.first_day.Goals as goal

pub returns-then-midnights-eq0 : goal.returns-then-midnights-eq0
returns-then-midnights-eq0 c = no_day _ _ c.if-midnights-eq0.true

pub returns : goal.returns
returns c = first_day_lem _ _ c.if-midnights-eq0.false _ (omega (arith, c.saturating_sub.ensures))
