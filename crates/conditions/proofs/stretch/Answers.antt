-- `conditions::stretch` meets its contract: each side of the span is `each_bit`'s. Assumes nothing.
use Rattle.conditions.proofs.stretch.Goals as goal

pub returns-then-outside : goal.returns-then-outside
returns-then-outside c = rw c.if-outside.true c.each_bit.ensures

pub returns-else-outside : goal.returns-else-outside
returns-else-outside c = rw c.if-outside.false c.each_bit-else-outside.ensures
