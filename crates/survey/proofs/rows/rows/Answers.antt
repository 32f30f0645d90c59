-- `survey::rows::rows` meets its contract: before row j, the bytes of the rows before are written and `passed` is their sum. Assumes
-- nothing.
use mathlib.Core.Path.{◌≡◌, refl, ap, ◌∙◌}
use Prim.Native.Nat.{ℕ, ◌+◌, ◌*◌, ◌/◌, ◌<◌}
use native.Mathlib.Omega.{arith}
use lib.ListN.{length}
use Rattle.conditions.proofs.Written.{length_written, written_next, written_none, counted_next, none_counted}
use Rattle.survey.specs.Rows.{row_byte, domain_byte}
use Rattle.survey.proofs.Numbers.{row_few}
use Rattle.survey.proofs.Parts.{rows_few, rows_row, next_line, domain_few, row_bytes}
use Rattle.survey.proofs.rows.rows.Goals as goal

pub loop-j-init : goal.loop-j-init
loop-j-init c = (omega arith, omega arith, none_counted _, written_none _ _ _)

pub overflow_add-y : goal.overflow_add-y
overflow_add-y c =
    let args = c.args in
    let inv = c.loop-j.invariant in
    omega (arith, c.requires.0.last, c.loop-j-test.true)

pub row-requires : goal.row-requires
row-requires c =
    let args = c.args in
    let inv = c.loop-j.invariant in (
      rows_row _ _ _ _ _ _ _ _ _ _ c.requires.0 c.requires.1 _ _ _ c.loop-j-test.true inv.1 (ap length inv.3 ∙ length_written _ _ _ _),
      c.requires.1,
    )

pub overflow_add-passed : goal.overflow_add-passed
overflow_add-passed c =
    let args = c.args in
    let inv = c.loop-j.invariant in
    let taken = c.loop-j-test.true in
    let line = next_line _ _ _ _ _ _ _ _ _ _ c.requires.0 c.requires.1 _ _ taken inv.1 in
    let few = domain_few _ _ _ _ _ _ _ _ _ _ c.requires.0 c.requires.1 args.low args.top args.outside args.memory.now c.loop-j.line in
    let here = row_few args.low args.top args.outside args.memory.now args.base args.tiled (args.stride / 2) args.first args.x (args.y + c.loop-j.j) args.columns in
    omega (
      arith,
      inv.2,
      few,
      here,
      line.1,
      c.wide-passed.ensures,
      c.row.ensures.count,
      rows_few _ _ _ _ _ _ _ _ _ _ c.requires.0 c.requires.1,
    )

pub overflow_add-line : goal.overflow_add-line
overflow_add-line c =
    let args = c.args in
    let inv = c.loop-j.invariant in
    let taken = c.loop-j-test.true in
    let line = next_line _ _ _ _ _ _ _ _ _ _ c.requires.0 c.requires.1 _ _ taken inv.1 in
    omega (arith, line.1, rows_few _ _ _ _ _ _ _ _ _ _ c.requires.0 c.requires.1)

pub overflow_add-j : goal.overflow_add-j
overflow_add-j c = omega (arith, c.loop-j-test.true)

pub loop-j-smaller : goal.loop-j-smaller
loop-j-smaller c = omega (arith, c.loop-j-test.true)

pub loop-j-preserved : goal.loop-j-preserved
loop-j-preserved c =
    let args = c.args in
    let inv = c.loop-j.invariant in
    let taken = c.loop-j-test.true in
    let line = next_line _ _ _ _ _ _ _ _ _ _ c.requires.0 c.requires.1 _ _ taken inv.1 in
    let same : (i : ℕ) → i < args.columns →
    row_byte args.low args.top args.outside args.memory.now args.base args.tiled (args.stride / 2) args.first args.x (args.y + c.loop-j.j) i ≡
    domain_byte args.low args.top args.outside args.memory.now args.base args.tiled (args.stride / 2) args.first args.x args.y args.columns
    (c.loop-j.line + i) = λ i h. row_bytes _ _ _ _ _ _ _ _ _ _ c.requires.0 c.requires.1 args.low args.top args.outside args.memory.now _ _ i inv.1 h in (
      omega (arith, taken),
      line.0,
      counted_next _ _ _ _ _ same refl _ _ inv.2 (c.wide-passed.ensures ∙ c.row.ensures.count),
      written_next _ _ _ _ _ same refl _ _ _ _ _ inv.3 (omega arith) c.row.ensures.bytes,
    )

pub shape_of-room : goal.shape_of-room
shape_of-room c = ap length c.loop-j.invariant.3 ∙ length_written _ _ _ _

pub returns : goal.returns
returns c =
    let args = c.args in
    let inv = c.loop-j.invariant in
    let last : c.loop-j.j ≡ args.rows = omega (arith, inv.0, c.loop-j-test.false) in
    let all : c.loop-j.line ≡ args.rows * args.columns = inv.1 ∙ ap (λ (n : ℕ). n * args.columns) last in
    record { count = rw all at inv.2; bytes = rw all at inv.3 }
