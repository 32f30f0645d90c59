-- `start::ready::first_of` meets its contract: 7, then 8, then 9. Assumes nothing.
use Rattle.start.proofs.Readiness.{first_seven, first_eight, first_nine, first_fine}
use Rattle.start.proofs.ready.first_of.Goals as goal

pub returns-then-not-complete : goal.returns-then-not-complete
returns-then-not-complete c = first_seven _ _ _ c.if-not-complete.true

pub returns-then-not-covered : goal.returns-then-not-covered
returns-then-not-covered c = first_eight _ _ _ c.if-not-complete.false c.if-not-covered.true

pub returns-then-disjoint : goal.returns-then-disjoint
returns-then-disjoint c = first_fine _ _ _ c.if-not-complete.false c.if-not-covered.false c.if-disjoint.true

pub returns-else-disjoint : goal.returns-else-disjoint
returns-else-disjoint c = first_nine _ _ _ c.if-not-complete.false c.if-not-covered.false c.if-disjoint.false
