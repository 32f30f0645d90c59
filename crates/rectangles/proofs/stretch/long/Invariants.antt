-- `rectangles::stretch::long` meets its contract: wide moves, and one that ends with the stretch. Assumes nothing.
use Prim.Native.Nat.{◌-◌}
use Rattle.rectangles.proofs.Stretches.{StretchGoing}
use Rattle.rectangles.proofs.stretch.long.Given as goal

abbrev pub invariant-loop-i : goal.invariant-loop-i
invariant-loop-i l = StretchGoing l.out l.place l.line l.n l.from l.initial.to l.i l.to

abbrev pub decreases-loop-i : goal.decreases-loop-i
decreases-loop-i l = l.n - l.i
