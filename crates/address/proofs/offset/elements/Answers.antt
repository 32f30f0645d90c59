-- `address::offset::elements` meets its contract: a shift by a size's trailing zeros divides by it. Assumes nothing.
use Rattle.std.proofs.Common.{ℕ, ◌/◌, ap}
use Rattle.address.proofs.Runs.{size_power}
use Rattle.address.proofs.offset.elements.Goals as goal

pub overflow_shr-result : goal.overflow_shr-result
overflow_shr-result c = (size_power _ c.requires).0

pub returns : goal.returns
returns c = ap (λ (n : ℕ). c.args.o / n) (size_power _ c.requires).1
