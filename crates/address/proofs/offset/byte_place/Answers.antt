-- `address::offset::byte_place` meets its contract. Assumes nothing.
use Rattle.std.proofs.Common.{arith}
use Rattle.address.specs.Offset.{byte_place}
use Rattle.address.proofs.Offsets.{blocks}
use Rattle.address.proofs.Sums.{masked_place}
use Rattle.address.proofs.offset.byte_place.Goals as goal

pub overflow_sub-result : goal.overflow_sub-result
overflow_sub-result c = omega (arith, (blocks _ c.requires).s_pos)

pub returns : goal.returns
unfolding byte_place
returns c = masked_place _ _ c.requires
