-- `rectangles::tiles::tiles` meets its contract: tile after tile. Assumes nothing.
use Prim.Native.Nat.{◌*◌, ◌-◌, ◌≤◌}
use Rattle.rectangles.specs.Moves.{block_place}
use Rattle.rectangles.proofs.RowMoves.{RowGoing}
use Rattle.rectangles.proofs.tiles.tiles.Given as goal

abbrev pub invariant-loop-k : goal.invariant-loop-k
invariant-loop-k l =
    (l.k ≤ l.count) × RowGoing l.out (block_place l.start l.row) l.n (8 * l.first) l.line l.from l.initial.to (8 * l.k) l.at l.to

abbrev pub decreases-loop-k : goal.decreases-loop-k
decreases-loop-k l = l.count - l.k
