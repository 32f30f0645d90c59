-- `rectangles::runs::by_runs` meets its contract: each run is one stretch. Assumes nothing.
use mathlib.Core.Bool.{true}
use Prim.Native.Nat.{◌-◌, ◌/◌, ◌≤◌}
use Rattle.rectangles.specs.Moves.{element_place}
use Rattle.rectangles.proofs.RowMoves.{RowGoing}
use Rattle.rectangles.proofs.runs.by_runs.Given as goal

abbrev pub invariant-loop-i : goal.invariant-loop-i
invariant-loop-i l =
    (l.i ≤ l.count) × RowGoing l.out (element_place true l.size (l.stride / l.size) l.at l.y) l.size l.x l.line l.from l.initial.to l.i l.here l.to

abbrev pub decreases-loop-i : goal.decreases-loop-i
decreases-loop-i l = l.count - l.i
