-- `registers::chosen` meets its contract: each return is the operand that the test of the third one's float picks. Assumes nothing.
use mathlib.Core.Path.{sym, ap, ◌∙◌}
use Rattle.laws.proofs.Choice.{pick_yes, pick_no}
use Rattle.registers.specs.Registers.{at_least_zero}
use Rattle.registers.proofs.chosen.Goals as goal

pub returns-then-float_of : goal.returns-then-float_of
returns-then-float_of c = sym (pick_yes _ _ (sym (ap at_least_zero c.float_of.ensures) ∙ c.if-float_of.true))

pub returns-else-float_of : goal.returns-else-float_of
returns-else-float_of c = sym (pick_no _ _ (sym (ap at_least_zero c.float_of.ensures) ∙ c.if-float_of.false))
