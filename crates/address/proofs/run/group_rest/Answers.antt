-- `address::run::group_rest` meets its contract: the groups of the five sizes. Assumes nothing.
use Rattle.laws.specs.Choice.{place_of}
use Rattle.layout.proofs.Sizes.{sixteen}
use Rattle.address.specs.Run.{run_unit}
use Rattle.address.proofs.Runs.{unit_rest}
use Rattle.address.proofs.run.group_rest.Goals as goal

pub returns-in-1 : goal.returns-in-1
unfolding run_unit place_of
returns-in-1 c = unit_rest _ 1 _ c.in-1.is

pub returns-in-2 : goal.returns-in-2
unfolding run_unit place_of
returns-in-2 c = unit_rest _ 2 _ c.in-2.is

pub returns-in-4 : goal.returns-in-4
unfolding run_unit place_of
returns-in-4 c = unit_rest _ 4 _ c.in-4.is

pub returns-in-8 : goal.returns-in-8
unfolding run_unit place_of
returns-in-8 c = unit_rest _ 8 _ c.in-8.is

pub returns-in_default : goal.returns-in_default
unfolding run_unit place_of
returns-in_default c =
    let others = c.in_default.in_default-own.rest in
    unit_rest _ 16 _ (sixteen _ c.requires others.0.0.0.1 others.0.0.1 others.0.1 others.1)
