-- `rectangles::bulk::carry` meets its contract. Assumes nothing.
use native.Mathlib.Omega.{arith}
use Rattle.rectangles.proofs.Rectangles.{size_of, columns_most, stride_fits, block_few, rect_asked, rect_told}
use Rattle.rectangles.proofs.Lines.{start_fits, lines_asked, lines_told}
use Rattle.rectangles.proofs.bulk.carry.Goals as goal

pub row_step-step-requires : goal.row_step-step-requires
row_step-step-requires c = size_of _ _ _ _ _ _ _ _ _ c.requires

pub overflow_mul-stride : goal.overflow_mul-stride
overflow_mul-stride c = stride_fits _ _ _ _ _ _ _ _ _ _ c.requires c.row_step-step.ensures

-- tiled
pub split-parts-requires : goal.split-parts-requires
split-parts-requires c =
    (size_of _ _ _ _ _ _ _ _ _ c.requires, columns_most _ _ _ _ _ _ _ _ _ c.requires)

pub block_bytes-n-requires : goal.block_bytes-n-requires
block_bytes-n-requires c = size_of _ _ _ _ _ _ _ _ _ c.requires

pub overflow_mul-tiles : goal.overflow_mul-tiles
overflow_mul-tiles c =
    omega (arith, (block_few _ _ _ _ _ _ _ _ _ _ c.requires c.row_step-step.ensures _ _ c.split-parts.ensures c.block_bytes-n.ensures).1)

pub nonzero_div-tiles : goal.nonzero_div-tiles
nonzero_div-tiles c =
    omega (arith, (block_few _ _ _ _ _ _ _ _ _ _ c.requires c.row_step-step.ensures _ _ c.split-parts.ensures c.block_bytes-n.ensures).0)

pub rows-requires : goal.rows-requires
rows-requires c =
    rect_asked _ _ _ _ _ _ _ _ _ _ c.requires c.row_step-step.ensures _ _ c.split-parts.ensures c.block_bytes-n.ensures
    c.if-tiled.true

-- linear
pub overflow_mul-place : goal.overflow_mul-place
overflow_mul-place c = (start_fits _ _ _ _ _ _ _ _ _ _ c.requires c.row_step-step.ensures c.if-tiled.false).0

pub overflow_mul-place-else-tiled : goal.overflow_mul-place-else-tiled
overflow_mul-place-else-tiled c = (start_fits _ _ _ _ _ _ _ _ _ _ c.requires c.row_step-step.ensures c.if-tiled.false).1

pub overflow_add-place : goal.overflow_add-place
overflow_add-place c = (start_fits _ _ _ _ _ _ _ _ _ _ c.requires c.row_step-step.ensures c.if-tiled.false).2

pub overflow_cast-place : goal.overflow_cast-place
overflow_cast-place c = omega (arith, (start_fits _ _ _ _ _ _ _ _ _ _ c.requires c.row_step-step.ensures c.if-tiled.false).2)

pub overflow_add-place-else-tiled : goal.overflow_add-place-else-tiled
overflow_add-place-else-tiled c = (start_fits _ _ _ _ _ _ _ _ _ _ c.requires c.row_step-step.ensures c.if-tiled.false).3

pub overflow_mul-bytes : goal.overflow_mul-bytes
overflow_mul-bytes c = (start_fits _ _ _ _ _ _ _ _ _ _ c.requires c.row_step-step.ensures c.if-tiled.false).4

pub overflow_cast-bytes : goal.overflow_cast-bytes
overflow_cast-bytes c = omega (arith, (start_fits _ _ _ _ _ _ _ _ _ _ c.requires c.row_step-step.ensures c.if-tiled.false).4)

pub overflow_cast-stride : goal.overflow_cast-stride
overflow_cast-stride c = omega (arith, stride_fits _ _ _ _ _ _ _ _ _ _ c.requires c.row_step-step.ensures)

pub lines-requires : goal.lines-requires
lines-requires c =
    lines_asked _ _ _ _ _ _ _ _ _ _ c.requires c.row_step-step.ensures c.if-tiled.false

pub returns-then-tiled : goal.returns-then-tiled
returns-then-tiled c =
    rect_told _ _ _ _ _ _ _ _ _ _ c.requires c.row_step-step.ensures _ _ c.split-parts.ensures
    c.block_bytes-n.ensures _ _ _ c.if-tiled.true c.rows.ensures

pub returns-else-tiled : goal.returns-else-tiled
returns-else-tiled c =
    lines_told _ _ _ _ _ _ _ _ c.args.from.now c.args.to.now _ c.requires c.row_step-step.ensures c.if-tiled.false
    c.lines.ensures
