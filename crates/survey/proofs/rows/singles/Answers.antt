-- `survey::rows::singles` meets its contract: before turn i, the bytes of the turns before are written and `passed` is their sum. Assumes
-- nothing.
use mathlib.Core.Path.{◌≡◌, ap, ◌∙◌}
use Prim.Native.Nat.{◌/◌}
use mathlib.Core.Bool.{true}
use native.Mathlib.Omega.{arith}
use lib.ListN.{length}
use Rattle.conditions.specs.Spans.{span_bit}
use Rattle.conditions.proofs.Written.{length_written, written_one, written_none, counted_one, none_counted}
use Rattle.survey.proofs.Numbers.{place_asked, whole_number, row_few}
use Rattle.survey.proofs.rows.singles.Goals as goal

pub loop-i-init : goal.loop-i-init
loop-i-init c = (omega arith, none_counted _, written_none _ _ _)

pub overflow_add-x : goal.overflow_add-x
overflow_add-x c =
    omega (arith, c.requires.columns, c.requires.stride_is.step, c.loop-i-test.true)

pub place-at-requires : goal.place-at-requires
place-at-requires c =
    place_asked _ _ _ _ _ _ _ _ _ _ c.requires _ c.loop-i-test.true

pub bit_at-bit-requires : goal.bit_at-bit-requires
bit_at-bit-requires c =
    omega (arith, c.place-at.ensures, whole_number _ _ _ _ _ _ _ _ _ _ c.requires _ c.loop-i-test.true)

pub overflow_cast-room : goal.overflow_cast-room
overflow_cast-room c = record { fits = omega (arith, c.bit_at-bit.ensures.most) }

pub overflow_add-room : goal.overflow_add-room
overflow_add-room c =
    omega (arith, c.requires.bytes, c.loop-i-test.true)

pub bounds-room-line : goal.bounds-room-line
bounds-room-line c =
    let long = ap length c.loop-i.invariant.2 ∙ length_written _ _ _ _ in
    omega (arith, long, c.requires.bytes, c.loop-i-test.true)

pub overflow_add-passed : goal.overflow_add-passed
overflow_add-passed c =
    let args = c.args in
    let few = row_few args.low args.top args.outside args.memory.now args.base true (args.stride / 2) args.first args.x args.y c.loop-i.i in
    omega (
      arith,
      c.loop-i.invariant.1,
      few,
      c.requires.columns,
      c.requires.stride_is.step,
      c.loop-i-test.true,
      c.bit_at-bit.ensures.most,
    )

pub overflow_add-i : goal.overflow_add-i
overflow_add-i c = omega (arith, c.loop-i-test.true)

pub loop-i-smaller : goal.loop-i-smaller
loop-i-smaller c = omega (arith, c.loop-i-test.true)

pub loop-i-preserved : goal.loop-i-preserved
loop-i-preserved c =
    let inv = c.loop-i.invariant in
    let here = c.bit_at-bit.ensures.value ∙ ap (span_bit _ _ _ c.args.memory.now) c.place-at.ensures in (
      omega (arith, c.loop-i-test.true),
      counted_one _ _ _ _ inv.1 here,
      written_one _ _ _ _ _ _ inv.2 here,
    )

pub shape_of-room : goal.shape_of-room
shape_of-room c = ap length c.loop-i.invariant.2 ∙ length_written _ _ _ _

pub returns : goal.returns
returns c =
    let args = c.args in
    let inv = c.loop-i.invariant in
    let all : c.loop-i.i ≡ args.count = omega (arith, inv.0, c.loop-i-test.false) in
    record { count = rw all at inv.1; bytes = rw all at inv.2 }
