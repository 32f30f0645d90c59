-- `rectangles::rows::rows` meets its contract: row after row. Assumes nothing.
use native.Mathlib.Omega.{arith}
use mathlib.Core.Bool.{true}
use Rattle.rectangles.proofs.RowParts.{rect_start, rect_next, rect_done, row_asked, rect_bytes, line_in}
use Rattle.rectangles.proofs.rows.rows.Goals as goal

pub overflow_add-bytes : goal.overflow_add-bytes
overflow_add-bytes c = omega (arith, c.requires.width_most)

pub overflow_add-bytes-2 : goal.overflow_add-bytes-2
overflow_add-bytes-2 c = omega (arith, c.requires.width_most)

pub overflow_mul-bytes : goal.overflow_mul-bytes
overflow_mul-bytes c = omega (arith, rect_bytes _ _ _ _ _ _ _ _ _ _ _ _ _ _ _ _ c.requires)

pub overflow_cast-bytes : goal.overflow_cast-bytes
overflow_cast-bytes c = omega (arith, rect_bytes _ _ _ _ _ _ _ _ _ _ _ _ _ _ _ _ c.requires)

pub loop-j-init : goal.loop-j-init
loop-j-init c = rect_start _ _ _ _ _ _ _ _ _

pub overflow_add-y : goal.overflow_add-y
overflow_add-y c = omega (arith, c.requires.rows_most, c.loop-j-test.true)

pub row-requires : goal.row-requires
row-requires c =
    row_asked _ _ _ _ _ _ _ _ _ _ _ _ _ _ _ _ c.requires _ _ _ c.loop-j-test.true
    c.loop-j.invariant.line_at c.loop-j.invariant.long

pub overflow_add-line : goal.overflow_add-line
overflow_add-line c =
    omega
    (arith, line_in _ _ _ _ _ _ _ _ _ _ _ _ _ _ _ _ c.requires _ _ c.loop-j-test.true c.loop-j.invariant.line_at)

pub overflow_add-j : goal.overflow_add-j
overflow_add-j c =
    omega (arith, c.requires.rows_most, c.loop-j-test.true)

pub loop-j-smaller : goal.loop-j-smaller
loop-j-smaller c = omega (arith, c.loop-j-test.true)

pub loop-j-preserved : goal.loop-j-preserved
loop-j-preserved c =
    rect_next _ _ _ _ _ _ _ _ _ _ _ _ _ c.loop-j.invariant
    c.loop-j-test.true c.to-1.given c.row.ensures

pub shape_of-to : goal.shape_of-to
shape_of-to c = c.loop-j.invariant.long

pub returns : goal.returns
returns c = rect_done _ _ _ _ _ _ _ _ _ _ _ _ c.loop-j.invariant c.loop-j-test.false
