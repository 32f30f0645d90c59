-- `survey::rows::groups` meets its contract: before turn i, the bytes of the turns before are written and `passed` is their sum. Assumes
-- nothing.
use mathlib.Core.Path.{◌≡◌, ap, ◌∙◌}
use Prim.Native.Nat.{◌+◌, ◌*◌, ◌/◌}
use mathlib.Core.Bool.{true}
use native.Mathlib.Omega.{arith}
use lib.ListN.{length}
use Rattle.conditions.specs.Spans.{span_bit}
use Rattle.conditions.proofs.Written.{length_written, written_next, written_none, counted_next, none_counted, sum_few, bit_few}
use Rattle.survey.proofs.Numbers.{place_asked, stretch_asked, same_bytes, group_of, row_few}
use Rattle.survey.proofs.rows.groups.Goals as goal

pub loop-i-init : goal.loop-i-init
loop-i-init c = (omega arith, none_counted _, written_none _ _ _)

pub overflow_mul-done : goal.overflow_mul-done
overflow_mul-done c =
    omega (arith, c.requires.0.columns, c.requires.0.stride_is.step, c.loop-i-test.true)

pub overflow_add-x : goal.overflow_add-x
overflow_add-x c =
    omega (arith, c.requires.0.columns, c.requires.0.stride_is.step, c.loop-i-test.true)

pub place-at-requires : goal.place-at-requires
place-at-requires c =
    place_asked _ _ _ _ _ _ _ _ _ _ c.requires.0 _ (omega (arith, c.loop-i-test.true))

pub overflow_add-line : goal.overflow_add-line
overflow_add-line c =
    omega (arith, c.requires.0.bytes, c.loop-i-test.true)

pub four-passed-requires : goal.four-passed-requires
four-passed-requires c =
    let args = c.args in
    let taken = c.loop-i-test.true in
    let begins = c.requires.1 (omega (arith, taken)) in
    let long = ap length c.loop-i.invariant.2 ∙ length_written _ _ _ _ in
    stretch_asked _ _ _ _ _ _ _ _ _ _ c.requires.0 (4 * c.loop-i.i) 4 (omega arith) (omega (arith, taken))
    (group_of args.base (args.stride / 2) args.x args.y c.loop-i.i begins) _ _ _ c.place-at.ensures (omega arith) long

pub overflow_add-passed : goal.overflow_add-passed
overflow_add-passed c =
    let args = c.args in
    let few = row_few args.low args.top args.outside args.memory.now args.base true (args.stride / 2) args.first args.x args.y (4 * c.loop-i.i) in
    let at = c.place-at.result in
    let more = sum_few 4 (λ j. span_bit args.low args.top args.outside args.memory.now (at + 2 * j))
    (λ j. bit_few args.low args.top args.outside args.memory.now (at + 2 * j)) in
    omega (
      arith,
      c.loop-i.invariant.1,
      few,
      more,
      c.requires.0.columns,
      c.requires.0.stride_is.step,
      c.loop-i-test.true,
      c.four-passed.ensures.count,
    )

pub overflow_add-i : goal.overflow_add-i
overflow_add-i c = omega (arith, c.loop-i-test.true)

pub loop-i-smaller : goal.loop-i-smaller
loop-i-smaller c = omega (arith, c.loop-i-test.true)

pub loop-i-preserved : goal.loop-i-preserved
loop-i-preserved c =
    let args = c.args in
    let inv = c.loop-i.invariant in
    let i = c.loop-i.i in
    let taken = c.loop-i-test.true in
    let begins = c.requires.1 (omega (arith, taken)) in
    let same = same_bytes _ _ _ _ _ _ _ _ _ _ c.requires.0 (4 * i) 4 (omega arith) (omega (arith, taken))
    (group_of args.base (args.stride / 2) args.x args.y i begins) args.low args.top args.outside args.memory.now _ c.place-at.ensures in
    let next : 4 * (i + 1) ≡ 4 * i + 4 = omega arith in (
      omega (arith, taken),
      counted_next _ _ _ _ _ same next _ _ inv.1 c.four-passed.ensures.count,
      written_next _ _ _ _ _ same next _ _ _ _ _ inv.2 (omega arith) c.four-passed.ensures.bytes,
    )

pub shape_of-room : goal.shape_of-room
shape_of-room c = ap length c.loop-i.invariant.2 ∙ length_written _ _ _ _

pub returns : goal.returns
returns c =
    let args = c.args in
    let inv = c.loop-i.invariant in
    let all : c.loop-i.i ≡ args.count = omega (arith, inv.0, c.loop-i-test.false) in
    record { count = rw all at inv.1; bytes = rw all at inv.2 }
