-- `rectangles::rows::row` meets its contract: elements, whole tiles, elements. Assumes nothing.
use mathlib.Core.Path.{◌∙◌}
use native.Mathlib.Omega.{arith}
use Rattle.rectangles.proofs.RowParts.{bytes_fit, start_fit, lead_fit, before_fit, lead_asked, tail_asked, tiles_asked, three_parts}
use Rattle.rectangles.proofs.rows.row.Goals as goal

pub overflow_mul-bytes : goal.overflow_mul-bytes
overflow_mul-bytes c = bytes_fit _ _ _ _ _ _ _ _ _ _ _ _ _ _ _ _ c.requires

pub overflow_mul-start : goal.overflow_mul-start
overflow_mul-start c = (start_fit _ _ _ _ _ _ _ _ _ _ _ _ _ _ _ _ c.requires).0

pub overflow_mul-start-2 : goal.overflow_mul-start-2
overflow_mul-start-2 c = (start_fit _ _ _ _ _ _ _ _ _ _ _ _ _ _ _ _ c.requires).1

pub overflow_add-start : goal.overflow_add-start
overflow_add-start c = (start_fit _ _ _ _ _ _ _ _ _ _ _ _ _ _ _ _ c.requires).2

pub overflow_cast-start : goal.overflow_cast-start
overflow_cast-start c = (start_fit _ _ _ _ _ _ _ _ _ _ _ _ _ _ _ _ c.requires).3

pub overflow_add-start-2 : goal.overflow_add-start-2
overflow_add-start-2 c = (start_fit _ _ _ _ _ _ _ _ _ _ _ _ _ _ _ _ c.requires).4

pub overflow_mul-middle : goal.overflow_mul-middle
overflow_mul-middle c = omega (arith, (lead_fit _ _ _ _ _ _ _ _ _ _ _ _ _ _ _ _ c.requires).0)

pub first_edge-requires : goal.first_edge-requires
first_edge-requires c = lead_asked _ _ _ _ _ _ _ _ _ _ _ _ _ _ _ _ c.requires

pub tiles-requires : goal.tiles-requires
tiles-requires c =
    tiles_asked _ _ _ _ _ _ _ _ _ _ _ _ _ _ _ _ c.requires _ c.to-1.given

pub overflow_add-lead : goal.overflow_add-lead
overflow_add-lead c =
    omega (arith, before_fit _ _ _ _ _ _ _ _ _ _ _ _ _ _ _ _ c.requires)

pub last_edge-requires : goal.last_edge-requires
last_edge-requires c =
    tail_asked _ _ _ _ _ _ _ _ _ _ _ _ _ _ _ _ c.requires _ (c.to-2-1.given ∙ c.to-1.given)

pub returns : goal.returns
returns c =
    three_parts _ _ _ _ _ _ _ _ _ _ _ _ _ _ c.args.from.now c.args.to.now _ _ _ c.requires c.to-1.given
    c.first_edge.ensures c.tiles.ensures c.last_edge.ensures
