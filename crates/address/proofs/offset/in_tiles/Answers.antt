-- `address::offset::in_tiles` meets its contract. Assumes nothing.
use Rattle.std.proofs.Common.{arith}
use Rattle.address.proofs.Sums.{sums, offset_of_lem}
use Rattle.address.proofs.offset.in_tiles.Goals as goal

pub overflow_mul-number-3 : goal.overflow_mul-number-3
overflow_mul-number-3 c = omega (arith, sums _ _ _ _ c.requires.0 c.args.x c.args.y c.requires.1)

pub overflow_add-number : goal.overflow_add-number
overflow_add-number c = omega (arith, sums _ _ _ _ c.requires.0 c.args.x c.args.y c.requires.1)

pub overflow_mul-element : goal.overflow_mul-element
overflow_mul-element c = omega (arith, sums _ _ _ _ c.requires.0 c.args.x c.args.y c.requires.1)

pub overflow_add-element : goal.overflow_add-element
overflow_add-element c = omega (arith, sums _ _ _ _ c.requires.0 c.args.x c.args.y c.requires.1)

pub overflow_mul-result : goal.overflow_mul-result
overflow_mul-result c = omega (arith, sums _ _ _ _ c.requires.0 c.args.x c.args.y c.requires.1)

pub overflow_mul-result-3 : goal.overflow_mul-result-3
overflow_mul-result-3 c = omega (arith, sums _ _ _ _ c.requires.0 c.args.x c.args.y c.requires.1)

pub overflow_add-result : goal.overflow_add-result
overflow_add-result c = omega (arith, sums _ _ _ _ c.requires.0 c.args.x c.args.y c.requires.1)

pub overflow_add-result-2 : goal.overflow_add-result-2
overflow_add-result-2 c = omega (arith, sums _ _ _ _ c.requires.0 c.args.x c.args.y c.requires.1)

pub returns : goal.returns
returns c = offset_of_lem _ _ _ _ c.requires.0 _ _ _ c.code-code.ensures.value
