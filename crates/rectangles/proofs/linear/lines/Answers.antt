-- `rectangles::linear::lines` meets its contract: row after row, each one stretch. Assumes nothing.
use native.Mathlib.Omega.{arith}
use Rattle.rectangles.proofs.Lines.{lines_start, lines_done, line_asked, lines_fit, lines_next}
use Rattle.rectangles.proofs.linear.lines.Goals as goal

pub loop-j-init : goal.loop-j-init
loop-j-init c = lines_start _ _ _ _ _ _ _ c.requires

pub stretch-requires : goal.stretch-requires
stretch-requires c =
    line_asked _ _ _ _ _ _ _ c.requires
    _ _ _ _ c.loop-j.invariant c.loop-j-test.true

pub overflow_add-here : goal.overflow_add-here
overflow_add-here c =
    (lines_fit _ _ _ _ _ _ _ c.requires _ _ _ _ c.loop-j.invariant c.loop-j-test.true).0

pub overflow_add-line : goal.overflow_add-line
overflow_add-line c =
    (lines_fit _ _ _ _ _ _ _ c.requires _ _ _ _ c.loop-j.invariant c.loop-j-test.true).1

pub overflow_add-j : goal.overflow_add-j
overflow_add-j c =
    omega (arith, c.requires.count_most, c.loop-j-test.true)

pub loop-j-smaller : goal.loop-j-smaller
loop-j-smaller c = omega (arith, c.loop-j-test.true)

pub loop-j-preserved : goal.loop-j-preserved
loop-j-preserved c =
    lines_next _ _ _ _ _ _ _ c.requires
    _ _ _ _ c.loop-j.invariant c.loop-j-test.true _ c.to-1.given c.stretch.ensures

pub shape_of-to : goal.shape_of-to
shape_of-to c = c.loop-j.invariant.row.long

pub returns : goal.returns
returns c = lines_done _ _ _ _ _ _ _ c.requires _ _ _ _ c.loop-j.invariant c.loop-j-test.false
