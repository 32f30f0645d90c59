-- `layout::table_step` meets its contract: the pitch cut down by the table's number. Assumes nothing.
use native.Mathlib.Nat.{div-mul-le_self}
use native.Mathlib.Omega.{arith}
use Rattle.layout.proofs.Powers.{some_columns, table_step}
use Rattle.layout.proofs.table_step.Goals as goal

pub nonzero_div-result : goal.nonzero_div-result
nonzero_div-result c = some_columns _ _ c.requires c.args.pitch _ c.unit-unit.ensures

pub overflow_mul-result : goal.overflow_mul-result
overflow_mul-result c = omega (arith, div-mul-le_self c.args.pitch c.unit-unit.result, c.ranges.pitch.fits)

pub returns : goal.returns
returns c = table_step _ _ c.requires _ _ c.unit-unit.ensures
