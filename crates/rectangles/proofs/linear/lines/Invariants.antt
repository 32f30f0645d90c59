-- `rectangles::linear::lines` meets its contract: row after row, each one stretch. Assumes nothing.
use Prim.Native.Nat.{◌-◌}
use Rattle.rectangles.proofs.Lines.{LinesGoing}
use Rattle.rectangles.proofs.linear.lines.Given as goal

abbrev pub invariant-loop-j : goal.invariant-loop-j
invariant-loop-j l = LinesGoing l.out l.place l.stride l.n l.count l.from l.initial.to l.j l.here l.line l.to

abbrev pub decreases-loop-j : goal.decreases-loop-j
decreases-loop-j l = l.count - l.j
