-- `survey::held::row_held` meets its contract: the numbers before number i are held. Assumes nothing.
use mathlib.Core.Path.{sym}
use mathlib.Core.Bool.{true}
use Prim.Native.Nat.{◌+◌, ◌/◌}
use native.Mathlib.Omega.{arith}
use Rattle.survey.proofs.Numbers.{two_size, pair_asked, run_some}
use Rattle.survey.proofs.Holds.{none_yet, all_so_far, first_below, last_past, run_held}
use Rattle.survey.proofs.held.row_held.Goals as goal

pub overflow_add-end : goal.overflow_add-end
overflow_add-end c = omega (arith, c.requires.end)

pub loop-i-init : goal.loop-i-init
loop-i-init c = (omega arith, none_yet _)

pub overflow_add-x : goal.overflow_add-x
overflow_add-x c =
    let args = c.args in
    let inv = c.loop-i.invariant in
    let i = c.loop-i.i in
    omega (arith, c.requires.columns, c.requires.stride_is.step, c.loop-i-test.true)

pub offset-requires : goal.offset-requires
offset-requires c =
    let args = c.args in
    let inv = c.loop-i.invariant in
    let i = c.loop-i.i in (
      pair_asked _ _ _ c.requires.stride_is (omega (arith, c.requires.columns, c.loop-i-test.true)) c.requires.row,
      c.requires.stride_is.whole,
    )

pub overflow_add-at : goal.overflow_add-at
overflow_add-at c =
    let args = c.args in
    let inv = c.loop-i.invariant in
    let i = c.loop-i.i in
    omega (arith, c.offset.ensures, c.requires.fits i c.loop-i-test.true)

pub returns-then-at-first : goal.returns-then-at-first
returns-then-at-first c =
    let args = c.args in
    let inv = c.loop-i.invariant in
    let i = c.loop-i.i in
    first_below _ _ _ _ _ _ _ _ c.requires i _ c.loop-i-test.true c.offset.ensures c.if-at-first.true

pub overflow_add-x-in-loop-i : goal.overflow_add-x-in-loop-i
overflow_add-x-in-loop-i c =
    let args = c.args in
    let inv = c.loop-i.invariant in
    let i = c.loop-i.i in
    omega (arith, c.requires.columns, c.requires.stride_is.step, c.loop-i-test.true)

pub run_from-requires : goal.run_from-requires
run_from-requires c =
    let args = c.args in
    let inv = c.loop-i.invariant in
    let i = c.loop-i.i in (
      two_size,
      omega (arith, c.requires.columns, c.requires.stride_is.whole, c.loop-i-test.true),
      c.requires.stride_is.whole,
    )

pub overflow_sub-count : goal.overflow_sub-count
overflow_sub-count c =
    let args = c.args in
    let inv = c.loop-i.invariant in
    let i = c.loop-i.i in
    omega (arith, inv.0)

pub overflow_mul-many : goal.overflow_mul-many
overflow_mul-many c =
    let args = c.args in
    let inv = c.loop-i.invariant in
    let i = c.loop-i.i in
    omega (arith, c.smaller-many.ensures.1, c.requires.columns, c.requires.stride_is.step)

pub overflow_add-at-in-loop-i : goal.overflow_add-at-in-loop-i
overflow_add-at-in-loop-i c =
    omega (
      arith,
      c.smaller-many.ensures.1,
      c.requires.columns,
      c.requires.stride_is.step,
      c.offset.ensures,
      c.requires.fits c.loop-i.i c.loop-i-test.true,
    )

pub returns-then-end-at : goal.returns-then-end-at
returns-then-end-at c =
    let args = c.args in
    let inv = c.loop-i.invariant in
    let i = c.loop-i.i in
    let small = c.smaller-many.ensures in
    let taken = c.loop-i-test.true in
    let some = small.2 (rw (sym c.run_from.ensures) at (run_some args.tiled (args.stride / 2) (args.x + i) (omega (arith, c.requires.columns, taken)))) (omega (arith, taken)) in
    last_past _ _ _ _ _ _ _ _ c.requires i _ some (omega (arith, small.0, c.run_from.ensures)) (omega (arith, small.1, taken))
    (omega (arith, c.if-end-at.true, c.offset.ensures))

pub overflow_add-i : goal.overflow_add-i
overflow_add-i c =
    let args = c.args in
    let inv = c.loop-i.invariant in
    let i = c.loop-i.i in
    omega (arith, c.smaller-many.ensures.1, c.requires.columns, c.requires.stride_is.step)

pub loop-i-smaller : goal.loop-i-smaller
loop-i-smaller c =
    let args = c.args in
    let inv = c.loop-i.invariant in
    let i = c.loop-i.i in
    let small = c.smaller-many.ensures in
    let taken = c.loop-i-test.true in
    let some = small.2 (rw (sym c.run_from.ensures) at (run_some args.tiled (args.stride / 2) (args.x + i) (omega (arith, c.requires.columns, taken)))) (omega (arith, taken)) in
    omega (arith, some, taken, small.1)

pub loop-i-preserved : goal.loop-i-preserved
loop-i-preserved c =
    let args = c.args in
    let inv = c.loop-i.invariant in
    let i = c.loop-i.i in
    let small = c.smaller-many.ensures in
    let taken = c.loop-i-test.true in
    let some = small.2 (rw (sym c.run_from.ensures) at (run_some args.tiled (args.stride / 2) (args.x + i) (omega (arith, c.requires.columns, taken)))) (omega (arith, taken)) in (
      omega (arith, small.1, taken),
      run_held _ _ _ _ _ _ _ _ c.requires i _ some (omega (arith, small.0, c.run_from.ensures)) (omega (arith, small.1, taken))
          (omega (arith, c.if-at-first.false, c.offset.ensures)) (omega (arith, c.if-end-at.false, c.offset.ensures)) inv.1,
    )

pub returns : goal.returns
returns c =
    let args = c.args in
    let inv = c.loop-i.invariant in
    let i = c.loop-i.i in
    all_so_far _ _ _ c.loop-i-test.false inv.1
