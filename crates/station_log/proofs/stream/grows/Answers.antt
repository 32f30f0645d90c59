-- `log::stream::grows` meets its contract. Assumes nothing.
use Rattle.station_log.proofs.Steps.{added, opened}
use Rattle.station_log.specs.Asked.{grown, ungrown}
use mathlib.Core.Path.{sym, ◌∙◌}
use native.Mathlib.Omega.{arith}
use Rattle.station_log.proofs.stream.grows.Goals as goal

pub returns-then-log-ne0 : goal.returns-then-log-ne0
returns-then-log-ne0 c = ungrown

pub returns-then-count-gt3 : goal.returns-then-count-gt3
returns-then-count-gt3 c = ungrown

pub returns-then-count-gt0 : goal.returns-then-count-gt0
returns-then-count-gt0 c =
    grown _ (added _ _ _ c.if-log-ne0.false (omega (arith, c.if-count-gt3.false)) c.if-count-gt0.true c.add.ensures)

pub returns-then-is_kind : goal.returns-then-is_kind
returns-then-is_kind c =
    grown _ (opened _ _ _ c.if-log-ne0.false (omega (arith, c.if-count-gt0.false)) (sym c.is_kind.ensures ∙ c.if-is_kind.true)
    c.open.ensures)

pub returns : goal.returns
returns c = ungrown
