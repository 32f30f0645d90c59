-- `rectangles::rows::rows` meets its contract: row after row. Assumes nothing.
use Prim.Native.Nat.{◌+◌, ◌-◌, ◌/◌}
use mathlib.Core.Bool.{true}
use Rattle.rectangles.specs.Moves.{element_place}
use Rattle.rectangles.proofs.RowParts.{RectGoing}
use Rattle.rectangles.proofs.rows.rows.Given as goal

abbrev pub invariant-loop-j : goal.invariant-loop-j
invariant-loop-j l =
    RectGoing l.out (element_place true l.size (l.stride / l.size) l.at) l.size l.x (l.lead + l.inner + l.tail) l.y l.rows l.from l.initial.to l.j l.line l.to

abbrev pub decreases-loop-j : goal.decreases-loop-j
decreases-loop-j l = l.rows - l.j
