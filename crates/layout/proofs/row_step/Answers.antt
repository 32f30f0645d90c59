-- `layout::row_step` meets its contract: the pitch cut down by shifts. Assumes nothing.
use native.Mathlib.Omega.{arith}
use Rattle.layout.proofs.Powers.{step_read, cut_step}
use Rattle.layout.proofs.row_step.Goals as goal

pub overflow_shr-result : goal.overflow_shr-result
overflow_shr-result c = omega (arith, (step_read _ _ _ _ c.requires c.power_at-log.ensures c.step_logs.ensures).0)

pub overflow_shl-result : goal.overflow_shl-result
overflow_shl-result c = omega (arith, (step_read _ _ _ _ c.requires c.power_at-log.ensures c.step_logs.ensures).0)

pub returns : goal.returns
returns c =
    cut_step _ _ _ _ c.ranges.pitch.fits
    (step_read _ _ _ _ c.requires c.power_at-log.ensures c.step_logs.ensures).1
