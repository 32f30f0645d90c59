-- `layout::table_rows` meets its contract: the height filled up by the table's number. Assumes nothing.
use Prim.Native.Nat.{◌+◌, ◌-◌}
use native.Mathlib.Nat.{div-mul-le_self}
use native.Mathlib.Omega.{arith}
use Rattle.layout.proofs.Powers.{rows_bounds, table_rows}
use Rattle.layout.proofs.table_rows.Goals as goal

pub overflow_sub-result : goal.overflow_sub-result
overflow_sub-result c = (rows_bounds _ _ c.requires.0 _ c.rows_unit-unit.ensures).0

pub overflow_add-result : goal.overflow_add-result
overflow_add-result c = omega (arith, rows_bounds _ _ c.requires.0 _ c.rows_unit-unit.ensures, c.requires.1)

pub nonzero_div-result : goal.nonzero_div-result
nonzero_div-result c = omega (arith, rows_bounds _ _ c.requires.0 _ c.rows_unit-unit.ensures)

pub overflow_mul-result : goal.overflow_mul-result
overflow_mul-result c =
    omega (
      arith,
      rows_bounds _ _ c.requires.0 _ c.rows_unit-unit.ensures,
      c.requires.1,
      div-mul-le_self (c.args.height + (c.rows_unit-unit.result - 1)) c.rows_unit-unit.result,
    )

pub returns : goal.returns
returns c = table_rows _ _ c.requires.0 _ c.rows_unit-unit.ensures _
