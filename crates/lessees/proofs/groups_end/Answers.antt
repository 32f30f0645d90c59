-- `lessees::groups_end` meets its contract: each turn passes a group whose words are all the party's. Assumes nothing.
use mathlib.Core.Path.{◌∙◌}
use native.Mathlib.Omega.{arith}
use Rattle.lessees.proofs.Taking.{run_begins, group_on, groups_out}
use Rattle.lessees.proofs.groups_end.Goals as goal

pub loop-at-init : goal.loop-at-init
loop-at-init c = run_begins _ _ _ _ (omega (arith, c.requires.0))

pub offset_bounds-parties-at : goal.offset_bounds-parties-at
offset_bounds-parties-at c = omega (arith, c.loop-at-test.true, c.requires.1)

pub bounds-parties-at : goal.bounds-parties-at
bounds-parties-at c = omega (arith, c.loop-at-test.true, c.requires.1)

-- a group that isn't all the party's
pub returns-then-parties-at : goal.returns-then-parties-at
returns-then-parties-at c = c.loop-at.invariant

pub loop-at-preserved : goal.loop-at-preserved
loop-at-preserved c =
    group_on _ _ _ _ _ c.loop-at.invariant c.loop-at-test.true (c.if-parties-at.false ∙ c.whole_group-whole.ensures)

-- all of them were
pub returns : goal.returns
returns c = groups_out _ _ _ _ _ c.loop-at.invariant c.loop-at-test.false
