-- `address_rows::whole_runs` meets its contract: before place i all places from `from` on have their addresses. Assumes nothing.
use mathlib.Core.Path.{refl, sym, ◌∙◌}
use mathlib.Core.Bool.{true}
use native.Mathlib.Omega.{arith}
use Rattle.address_rows.proofs.Runs.{unit_some, whole_run, begins_next, written_none, written_next, written_long, long_row, long_run}
use Rattle.address_rows.proofs.whole_runs.Goals as goal

pub loop-i-init : goal.loop-i-init
loop-i-init c = (omega arith, c.requires.2, refl, sym (written_none _ _ _ c.requires.2.inside))

pub overflow_sub-count : goal.overflow_sub-count
overflow_sub-count c = omega (arith, c.loop-i.invariant.1.inside)

pub overflow_add-i : goal.overflow_add-i
overflow_add-i c =
    let entry = c.requires in
    let at-loop = c.loop-i in
    omega (arith, c.loop-i-test.true, entry.1.columns, entry.1.step, at-loop.invariant.1.inside)

pub one_run-requires : goal.one_run-requires
one_run-requires c =
    let entry = c.requires in
    let at-loop = c.loop-i in
    (long_row at-loop.invariant.2 entry.1, long_run at-loop.invariant.2 (whole_run entry.1 _ entry.0 at-loop.invariant.1 c.loop-i-test.true))

pub overflow_add-i-in-loop-i : goal.overflow_add-i-in-loop-i
overflow_add-i-in-loop-i c =
    let entry = c.requires in
    let at-loop = c.loop-i in
    omega (arith, c.loop-i-test.true, entry.1.columns, entry.1.step, at-loop.invariant.1.inside)

pub loop-i-smaller : goal.loop-i-smaller
loop-i-smaller c =
    let entry = c.requires in
    omega (arith, unit_some _ entry.1.size, entry.0, c.loop-i-test.true)

pub loop-i-preserved : goal.loop-i-preserved
loop-i-preserved c =
    let at-loop = c.loop-i in
    let entry = c.requires in
    let run = whole_run entry.1 _ entry.0 at-loop.invariant.1 c.loop-i-test.true in
    let one = c.one_run.ensures in (
      omega (arith, at-loop.invariant.0),
      begins_next entry.1 _ entry.0 at-loop.invariant.1 c.loop-i-test.true,
      written_long _ _ _ _ _ (omega arith) (omega (arith, run.inside, at-loop.invariant.2)) one ∙ at-loop.invariant.2,
      written_next _ _ _ _ _ _ _ at-loop.invariant.0 (omega arith) entry.2.inside at-loop.invariant.3 one,
    )

pub shape_of-room : goal.shape_of-room
shape_of-room c = c.loop-i.invariant.2

pub returns : goal.returns
returns c = record { next = (c.loop-i.invariant.0, c.loop-i.invariant.1, omega (arith, c.loop-i-test.false)); bytes = c.loop-i.invariant.3 }
