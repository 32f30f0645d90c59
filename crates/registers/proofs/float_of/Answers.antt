-- `registers::float_of` meets its contract: a number's float is that of its bits, and a NaN's is the one NaN. Assumes nothing.
use mathlib.Core.Path.{refl, sym, ◌∙◌}
use Rattle.registers.proofs.Copying.{number_defined, no_number}
use Rattle.registers.proofs.float_of.Goals as goal

pub float_from_bits-result : goal.float_from_bits-result
float_from_bits-result c = number_defined _ (sym c.is_number.ensures ∙ c.if-is_number.true)

pub returns-then-is_number : goal.returns-then-is_number
returns-then-is_number c = refl

pub returns-else-is_number : goal.returns-else-is_number
returns-else-is_number c = no_number _ (sym c.is_number.ensures ∙ c.if-is_number.false)
