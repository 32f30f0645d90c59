-- `rectangles::rows::last_edge` meets its contract. Assumes nothing.
use mathlib.Core.Bool.{true}
use Prim.Native.Nat.{◌+◌, ◌*◌, ◌/◌}
use native.Mathlib.Omega.{arith}
use Rattle.rectangles.specs.Moves.{element_place}
use Rattle.rectangles.proofs.RowParts.{none_in_row, rest_fits, rest_asked}
use Rattle.rectangles.proofs.rows.last_edge.Goals as goal

pub overflow_mul-here : goal.overflow_mul-here
overflow_mul-here c = omega (arith, (rest_fits _ _ _ _ _ _ _ _ _ _ _ c.requires).0)

pub overflow_add-here : goal.overflow_add-here
overflow_add-here c = omega (arith, (rest_fits _ _ _ _ _ _ _ _ _ _ _ c.requires).1)

pub by_runs-requires : goal.by_runs-requires
by_runs-requires c = rest_asked _ _ _ _ _ _ _ _ _ _ _ c.requires

pub returns-else-count-gt0 : goal.returns-else-count-gt0
returns-else-count-gt0 c =
    let args = c.args in
    none_in_row args.out (element_place true args.size (args.stride / args.size) args.at args.y) args.size (args.x + args.before)
    (args.line + args.before * args.size) args.count args.from.now args.to.now c.if-count-gt0.false
