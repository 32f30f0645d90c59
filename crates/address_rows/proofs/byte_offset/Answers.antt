-- `address_rows::byte_offset` meets its contract: the tile's number, and the table's place. Assumes nothing.
use native.Mathlib.Omega.{arith}
use Rattle.address_rows.proofs.Bytes.{number_few, column_few, offset_is}
use Rattle.address_rows.proofs.byte_offset.Goals as goal

pub overflow_mul-number : goal.overflow_mul-number
overflow_mul-number c = omega (arith, number_few _ _ _ c.requires.1 c.requires.2)

pub overflow_add-number : goal.overflow_add-number
overflow_add-number c = omega (arith, number_few _ _ _ c.requires.1 c.requires.2, column_few _ _ _ c.requires.1 c.requires.2)

pub overflow_mul-result : goal.overflow_mul-result
overflow_mul-result c = omega (arith, number_few _ _ _ c.requires.1 c.requires.2, column_few _ _ _ c.requires.1 c.requires.2)

pub overflow_add-result : goal.overflow_add-result
overflow_add-result c =
    omega
    (arith, number_few _ _ _ c.requires.1 c.requires.2, column_few _ _ _ c.requires.1 c.requires.2, c.by_table.ensures.most)

pub returns : goal.returns
returns c = offset_is _ _ _ c.requires.1 c.requires.2 _ c.by_table.ensures.place
