-- `rectangles::rows::first_edge` meets its contract. Assumes nothing.
use mathlib.Core.Bool.{true}
use Prim.Native.Nat.{◌/◌}
use Rattle.rectangles.specs.Moves.{element_place}
use Rattle.rectangles.proofs.RowParts.{none_in_row}
use Rattle.rectangles.proofs.rows.first_edge.Goals as goal

pub returns-else-lead-gt0 : goal.returns-else-lead-gt0
returns-else-lead-gt0 c =
    let args = c.args in
    none_in_row args.out (element_place true args.size (args.stride / args.size) args.at args.y) args.size args.x args.line
    args.lead args.from.now args.to.now c.if-lead-gt0.false
