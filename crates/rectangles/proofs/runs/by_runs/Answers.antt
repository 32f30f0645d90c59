-- `rectangles::runs::by_runs` meets its contract: each run is one stretch. Assumes nothing.
use mathlib.Core.Bool.{true}
use native.Mathlib.Omega.{arith}
use Rattle.rectangles.proofs.Stretches.{runs_start, runs_done, column_asked, column_small, place_small, some, bytes_small, run_asked, runs_next}
use Rattle.rectangles.proofs.runs.by_runs.Goals as goal

pub loop-i-init : goal.loop-i-init
loop-i-init c = runs_start _ _ _ _ _ _ _ _ _ _ _ c.requires

pub overflow_add-column : goal.overflow_add-column
overflow_add-column c =
    omega (arith, c.requires.columns, c.requires.step, c.loop-i-test.true)

pub offset-requires : goal.offset-requires
offset-requires c =
    (column_asked _ _ _ _ _ _ _ _ _ c.args.from.now c.args.to.now c.requires _ c.loop-i-test.true, c.requires.whole)

pub overflow_add-place : goal.overflow_add-place
overflow_add-place c =
    place_small _ _ _ _ _ _ _ _ _ c.args.from.now c.args.to.now c.requires _ c.loop-i-test.true _ c.offset.ensures

pub run_from-run-requires : goal.run_from-run-requires
run_from-run-requires c =
    (c.requires.size, column_small _ _ _ _ _ _ _ _ _ c.args.from.now c.args.to.now c.requires _ c.loop-i-test.true, c.requires.whole)

pub overflow_sub-count : goal.overflow_sub-count
overflow_sub-count c = omega (arith, c.loop-i-test.true)

pub overflow_mul-bytes : goal.overflow_mul-bytes
overflow_mul-bytes c =
    omega (
      arith,
      (bytes_small _ _ _ _ _ _ _ _ _ _ _ c.requires _ c.loop-i-test.true _ _ _ _ _ c.loop-i.invariant c.offset.ensures
          c.run_from-run.ensures c.smaller-many.ensures).0,
    )

pub overflow_cast-bytes : goal.overflow_cast-bytes
overflow_cast-bytes c =
    omega (
      arith,
      (bytes_small _ _ _ _ _ _ _ _ _ _ _ c.requires _ c.loop-i-test.true _ _ _ _ _ c.loop-i.invariant c.offset.ensures
          c.run_from-run.ensures c.smaller-many.ensures).0,
    )

pub stretch-requires : goal.stretch-requires
stretch-requires c =
    run_asked _ _ _ _ _ _ _ _ _ _ _ c.requires _ c.loop-i-test.true _ _ _ _ _ c.loop-i.invariant c.offset.ensures
    c.run_from-run.ensures c.smaller-many.ensures

pub overflow_add-here : goal.overflow_add-here
overflow_add-here c =
    omega (
      arith,
      (bytes_small _ _ _ _ _ _ _ _ _ _ _ c.requires _ c.loop-i-test.true _ _ _ _ _ c.loop-i.invariant c.offset.ensures
          c.run_from-run.ensures c.smaller-many.ensures).1,
    )

pub overflow_add-i : goal.overflow_add-i
overflow_add-i c =
    omega (
      arith,
      (bytes_small _ _ _ _ _ _ _ _ _ _ _ c.requires _ c.loop-i-test.true _ _ _ _ _ c.loop-i.invariant c.offset.ensures
          c.run_from-run.ensures c.smaller-many.ensures).2,
    )

pub loop-i-smaller : goal.loop-i-smaller
loop-i-smaller c =
    omega (
      arith,
      some _ _ _ _ _ _ _ _ _ _ _ c.requires _ c.loop-i-test.true _ _ _ _ _ c.loop-i.invariant c.offset.ensures
          c.run_from-run.ensures c.smaller-many.ensures,
      c.smaller-many.ensures.1,
      c.loop-i-test.true,
    )

pub loop-i-preserved : goal.loop-i-preserved
loop-i-preserved c =
    runs_next _ _ _ _ _ _ _ _ _ _ _ c.requires _ c.loop-i-test.true _ _ _ _ _ c.loop-i.invariant c.offset.ensures
    c.run_from-run.ensures c.smaller-many.ensures _ c.to-1.given c.stretch.ensures

pub shape_of-to : goal.shape_of-to
shape_of-to c = c.loop-i.invariant.1.long

pub returns : goal.returns
returns c = runs_done _ _ _ _ _ _ _ _ _ _ _ c.requires _ _ _ c.loop-i.invariant c.loop-i-test.false
