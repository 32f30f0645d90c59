-- `rectangles::tiles::tile_row` meets its contract: the eight parts stand where the blocks' codes say. Assumes nothing.
use mathlib.Core.Path.{◌∙◌}
use native.Mathlib.Omega.{arith}
use Rattle.rectangles.proofs.TileRows.{at_most, eight_asked, eight_blocks}
use Rattle.rectangles.proofs.tiles.tile_row.Goals as goal

pub overflow_add-at-4 : goal.overflow_add-at-4
overflow_add-at-4 c = let m = at_most _ _ _ _ _ _ _ _ c.requires in omega (arith, m.0, m.1)

pub overflow_add-a-2 : goal.overflow_add-a-2
overflow_add-a-2 c = let m = at_most _ _ _ _ _ _ _ _ c.requires in omega (arith, m.0, m.1)

pub overflow_add-b-2 : goal.overflow_add-b-2
overflow_add-b-2 c = let m = at_most _ _ _ _ _ _ _ _ c.requires in omega (arith, m.0, m.1)

pub overflow_add-c-2 : goal.overflow_add-c-2
overflow_add-c-2 c = let m = at_most _ _ _ _ _ _ _ _ c.requires in omega (arith, m.0, m.1)

pub overflow_add-d-2 : goal.overflow_add-d-2
overflow_add-d-2 c = let m = at_most _ _ _ _ _ _ _ _ c.requires in omega (arith, m.0, m.1)

pub four_pairs-requires : goal.four_pairs-requires
four_pairs-requires c = eight_asked _ _ _ _ _ _ _ _ c.requires

pub returns : goal.returns
returns c =
    let args = c.args in
    c.four_pairs.ensures ∙
    eight_blocks args.start args.row args.tile args.out args.n args.line args.from.now args.to.now
