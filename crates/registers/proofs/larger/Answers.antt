-- `registers::larger` meets its contract: each return is the operand that the comparison of their floats picks. Assumes nothing.
use mathlib.Core.Path.{sym, ap₂, ◌∙◌}
use lib.Ieee.{lt}
use Rattle.laws.proofs.Choice.{pick_yes, pick_no}
use Rattle.registers.proofs.larger.Goals as goal

pub returns-then-float_of : goal.returns-then-float_of
returns-then-float_of c = sym (pick_yes _ _ (sym (ap₂ lt c.float_of.ensures c.float_of-2.ensures) ∙ c.if-float_of.true))

pub returns-else-float_of : goal.returns-else-float_of
returns-else-float_of c = sym (pick_no _ _ (sym (ap₂ lt c.float_of.ensures c.float_of-2.ensures) ∙ c.if-float_of.false))
