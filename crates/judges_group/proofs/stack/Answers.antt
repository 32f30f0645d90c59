-- `judges_group::stack` meets its contract: from the last cell to the first. Assumes nothing.
use mathlib.Core.Path.{refl}
use lib.Dec.{eqb}
use Rattle.judges_group.specs.Judged.{stack_of}
use Rattle.judges_group.proofs.Words.{both_tests, one_test, joined, stacked_on}
use Rattle.judges_group.proofs.stack.Goals as goal

pub returns : goal.returns
unfolding stack_of
returns c =
    let a = c.args in
    let no_third = one_test (eqb a.c3 0) in
    let no_second = joined (both_tests (eqb a.c2 0) _) refl no_third in
    let no_first = joined (both_tests (eqb a.c1 0) _) refl no_second in
    stacked_on a.c0 a.g0 c.stacked.ensures no_first
    (stacked_on a.c1 a.g1 c.stacked-first.ensures no_second
    (stacked_on a.c2 a.g2 c.stacked-second.ensures no_third c.stacked-third.ensures))
