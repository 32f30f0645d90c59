-- `worked::tally::Tally::with` meets its contract: the count that the check belongs to is one more. Assumes nothing.
use Rattle.worked.specs.Counts.{counted}
use Rattle.worked.proofs.tally.Tally.with.Goals as goal

-- it agreed
pub returns-then-ok : goal.returns-then-ok
unfolding counted
returns-then-ok c = rw (c.if-ok.true, c.wrapping_add_u64.ensures.value)

-- it differed
pub returns-else-ok : goal.returns-else-ok
unfolding counted
returns-else-ok c = rw (c.if-ok.false, c.wrapping_add_u64-else-ok.ensures.value)
