-- `address_rows::whole_of` meets its contract: each arm hands over its size. Assumes nothing.
use mathlib.Core.Path.{refl}
use Rattle.laws.specs.Choice.{pick, place_of}
use Rattle.layout.proofs.Sizes.{sixteen}
use Rattle.address.specs.Run.{run_unit}
use Rattle.address_rows.proofs.Runs.{row_arm, begins_arm}
use Rattle.address_rows.proofs.whole_of.Goals as goal

pub whole_runs-requires : goal.whole_runs-requires
unfolding run_unit place_of pick
whole_runs-requires c =
    let entry = c.requires in
    let match = c.in-2 in
    (refl, row_arm match.is entry.0, begins_arm match.is entry.2)

pub whole_runs-requires-in-4 : goal.whole_runs-requires-in-4
unfolding run_unit place_of pick
whole_runs-requires-in-4 c =
    let entry = c.requires in
    let match = c.in-4 in
    (refl, row_arm match.is entry.0, begins_arm match.is entry.2)

pub whole_runs-requires-in-8 : goal.whole_runs-requires-in-8
unfolding run_unit place_of pick
whole_runs-requires-in-8 c =
    let entry = c.requires in
    let match = c.in-8 in
    (refl, row_arm match.is entry.0, begins_arm match.is entry.2)

pub whole_runs-requires-in_default : goal.whole_runs-requires-in_default
unfolding run_unit place_of pick
whole_runs-requires-in_default c =
    let entry = c.requires in
    let other = c.in_default.in_default-own.rest in
    let is = sixteen _ entry.0.size entry.1 other.0.0.1 other.0.1 other.1 in
    (refl, row_arm is entry.0, begins_arm is entry.2)

pub returns-in-2 : goal.returns-in-2
unfolding run_unit place_of pick
returns-in-2 c = rw c.in-2.is c.whole_runs.ensures

pub returns-in-4 : goal.returns-in-4
unfolding run_unit place_of pick
returns-in-4 c = rw c.in-4.is c.whole_runs-in-4.ensures

pub returns-in-8 : goal.returns-in-8
unfolding run_unit place_of pick
returns-in-8 c = rw c.in-8.is c.whole_runs-in-8.ensures

pub returns-in_default : goal.returns-in_default
unfolding run_unit place_of pick
returns-in_default c =
    let entry = c.requires in
    let other = c.in_default.in_default-own.rest in
    let is = sixteen _ entry.0.size entry.1 other.0.0.1 other.0.1 other.1 in
    rw is c.whole_runs-in_default.ensures
