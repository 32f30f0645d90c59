-- `lessees::passed` meets its contract: by groups, or past one word. Assumes nothing.
use native.Mathlib.Omega.{arith}
use Rattle.lessees.proofs.Taking.{run_first, passed_groups}
use Rattle.lessees.proofs.passed.Goals as goal

-- the word begins whole groups of the party's
pub returns-then-next-end : goal.returns-then-next-end
returns-then-next-end c = (passed_groups _ _ _ _ _ c.if-from-eq0.true c.groups_end-end.ensures, omega (arith, c.if-next-end.true))

pub returns-else-next-end : goal.returns-else-next-end
returns-else-next-end c = (run_first _ _ _ _ c.requires.0 c.requires.1.1, omega arith)

pub returns-else-from-eq0 : goal.returns-else-from-eq0
returns-else-from-eq0 c = (run_first _ _ _ _ c.requires.0 c.requires.1.1, omega arith)
