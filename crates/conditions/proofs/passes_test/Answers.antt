-- `conditions::passes_test` meets its contract: the list of conditions. Assumes nothing.
use Rattle.std.proofs.Common.{refl}
use Rattle.conditions.specs.Conditions.{passes}
use Rattle.conditions.proofs.Tests.{by_number, past_tests}
use Rattle.conditions.proofs.passes_test.Goals as goal

pub returns-in-0 : goal.returns-in-0
unfolding passes
returns-in-0 c =
    let args = c.args in
    by_number args.test 0 args.v args.b c.in-0.is refl

pub returns-in-1 : goal.returns-in-1
unfolding passes
returns-in-1 c =
    let args = c.args in
    by_number args.test 1 args.v args.b c.in-1.is refl

pub returns-in-2 : goal.returns-in-2
unfolding passes
returns-in-2 c =
    let args = c.args in
    by_number args.test 2 args.v args.b c.in-2.is refl

pub returns-in-3 : goal.returns-in-3
unfolding passes
returns-in-3 c =
    let args = c.args in
    by_number args.test 3 args.v args.b c.in-3.is refl

pub returns-in-4 : goal.returns-in-4
unfolding passes
returns-in-4 c =
    let args = c.args in
    by_number args.test 4 args.v args.b c.in-4.is refl

pub returns-in-5 : goal.returns-in-5
unfolding passes
returns-in-5 c =
    let args = c.args in
    by_number args.test 5 args.v args.b c.in-5.is refl

pub returns-in-6 : goal.returns-in-6
unfolding passes
returns-in-6 c =
    let args = c.args in
    by_number args.test 6 args.v args.b c.in-6.is refl

pub returns-in-7 : goal.returns-in-7
unfolding passes
returns-in-7 c =
    let args = c.args in
    by_number args.test 7 args.v args.b c.in-7.is refl

pub returns-in_default : goal.returns-in_default
returns-in_default c =
    let others = c.in_default.in_default-own.rest in
    past_tests _ _ _ others.0.0.0.0.0.0.0.1 others.0.0.0.0.0.0.1 others.0.0.0.0.0.1 others.0.0.0.0.1 others.0.0.0.1
    others.0.0.1 others.0.1 others.1
