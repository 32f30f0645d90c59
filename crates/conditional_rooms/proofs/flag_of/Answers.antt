-- `conditional_rooms::flag_of` meets its contract: 1 for yes, 0 for no. Assumes nothing.
use mathlib.Core.Path.{sym, ap}
use Rattle.laws.specs.Masks.{digit}
use Rattle.conditional_rooms.proofs.flag_of.Goals as goal

pub returns-then-passed : goal.returns-then-passed
unfolding digit
returns-then-passed c = sym (ap digit c.if-passed.true)

pub returns-else-passed : goal.returns-else-passed
unfolding digit
returns-else-passed c = sym (ap digit c.if-passed.false)
