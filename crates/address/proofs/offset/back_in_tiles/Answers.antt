-- `address::offset::back_in_tiles` meets its contract. Assumes nothing.
use Rattle.std.proofs.Common.{arith}
use Rattle.address.proofs.Sums.{tile_sums, back_sums, x_of_lem, y_of}
use Rattle.address.proofs.offset.back_in_tiles.Goals as goal

pub nonzero_rem-number : goal.nonzero_rem-number
nonzero_rem-number c = (tile_sums _ _ _ _ c.requires.0 c.args.o c.ranges.o.fits c.requires.1).columns

pub nonzero_div-number-2 : goal.nonzero_div-number-2
nonzero_div-number-2 c = (tile_sums _ _ _ _ c.requires.0 c.args.o c.ranges.o.fits c.requires.1).columns

pub find-found-requires : goal.find-found-requires
find-found-requires c = omega (arith, (tile_sums _ _ _ _ c.requires.0 c.args.o c.ranges.o.fits c.requires.1))

pub overflow_mul-result : goal.overflow_mul-result
overflow_mul-result c =
    omega (
      arith,
      (back_sums _ _ _ _ c.requires.0 c.args.o c.ranges.o.fits c.requires.1 _ _ c.find-found.ensures.column
          c.find-found.ensures.row),
    )

pub overflow_add-result : goal.overflow_add-result
overflow_add-result c =
    omega (
      arith,
      (back_sums _ _ _ _ c.requires.0 c.args.o c.ranges.o.fits c.requires.1 _ _ c.find-found.ensures.column
          c.find-found.ensures.row),
    )

pub overflow_mul-result-2 : goal.overflow_mul-result-2
overflow_mul-result-2 c =
    omega (
      arith,
      (back_sums _ _ _ _ c.requires.0 c.args.o c.ranges.o.fits c.requires.1 _ _ c.find-found.ensures.column
          c.find-found.ensures.row),
    )

pub overflow_add-result-2 : goal.overflow_add-result-2
overflow_add-result-2 c =
    omega (
      arith,
      (back_sums _ _ _ _ c.requires.0 c.args.o c.ranges.o.fits c.requires.1 _ _ c.find-found.ensures.column
          c.find-found.ensures.row),
    )

pub returns : goal.returns
returns c =
    let o = c.args.o in record { column = x_of_lem _ _ _ _ c.requires.0 o c.ranges.o.fits c.requires.1 _ _ c.find-found.ensures.column c.find-found.ensures.row; row = y_of _ _ _ _ c.requires.0 o c.ranges.o.fits c.requires.1 _ _ c.find-found.ensures.column c.find-found.ensures.row }
