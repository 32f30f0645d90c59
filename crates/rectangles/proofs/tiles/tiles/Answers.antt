-- `rectangles::tiles::tiles` meets its contract: tile after tile. Assumes nothing.
use native.Mathlib.Omega.{arith}
use Rattle.rectangles.proofs.RowMoves.{one_tile, line_small, tiles_start, tiles_next, tiles_done}
use Rattle.rectangles.proofs.tiles.tiles.Goals as goal

pub loop-k-init : goal.loop-k-init
loop-k-init c = (omega arith, tiles_start _ _ _ _ _ _ _)

pub overflow_add-first : goal.overflow_add-first
overflow_add-first c = omega (arith, c.requires.tiles_most, c.loop-k-test.true)

pub tile_row-requires : goal.tile_row-requires
tile_row-requires c =
    one_tile _ _ _ _ _ _ _ _ _ c.requires _ _ _ c.loop-k-test.true
    c.loop-k.invariant.1.long c.loop-k.invariant.1.line_at

pub overflow_mul-at : goal.overflow_mul-at
overflow_mul-at c =
    omega (arith, c.requires.few)

pub overflow_add-at : goal.overflow_add-at
overflow_add-at c =
    line_small _ _ _ _ _ _ _ _ _ c.requires _ _
    c.loop-k-test.true c.loop-k.invariant.1.line_at

pub overflow_add-k : goal.overflow_add-k
overflow_add-k c =
    omega (arith, c.requires.tiles_most, c.loop-k-test.true)

pub loop-k-smaller : goal.loop-k-smaller
loop-k-smaller c = omega (arith, c.loop-k-test.true)

pub loop-k-preserved : goal.loop-k-preserved
loop-k-preserved c =
    (omega (arith, c.loop-k-test.true), tiles_next _ _ _ _ _ _ _ _ _ _ _ c.loop-k.invariant.1 c.to-1.given c.tile_row.ensures)

pub shape_of-to : goal.shape_of-to
shape_of-to c = c.loop-k.invariant.1.long

pub returns : goal.returns
returns c = tiles_done _ _ _ _ _ _ _ _ _ _ _ c.loop-k.invariant.1 c.loop-k.invariant.0 c.loop-k-test.false
