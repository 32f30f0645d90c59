-- `layout::rows_taken` meets its contract: the height filled up by shifts. Assumes nothing.
use Rattle.layout.proofs.Powers.{unit_least, unit_fits, filled_rows}
use native.Mathlib.Omega.{arith}
use Rattle.layout.proofs.rows_taken.Goals as goal

pub overflow_sub-result : goal.overflow_sub-result
overflow_sub-result c = unit_least _ _ _ c.requires.0 c.rows_log-log.ensures.power

pub overflow_add-result : goal.overflow_add-result
overflow_add-result c = omega (arith, unit_fits _ _ _ c.requires.0 c.rows_log-log.ensures.power _ c.requires.1)

pub returns : goal.returns
returns c = filled_rows _ _ _ c.requires.0 c.rows_log-log.ensures.power _ c.requires.1
