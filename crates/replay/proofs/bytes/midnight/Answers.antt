-- `replay::bytes::midnight` meets its contract. Assumes nothing.
use native.Mathlib.Omega.{arith}
use mathlib.Core.Path.{sym, ◌∙◌}
use Rattle.replay.proofs.Midnights.{few, midnight_taken, midnight_refused}
use Rattle.replay.proofs.bytes.midnight.Goals as goal

pub overflow_cast-at : goal.overflow_cast-at
overflow_cast-at c = omega (arith, few _ _ _ (sym c.may_begin.ensures ∙ c.if-may_begin.true))

pub overflow_mul-at : goal.overflow_mul-at
overflow_mul-at c = omega (arith, few _ _ _ (sym c.may_begin.ensures ∙ c.if-may_begin.true))

pub offset_bounds-marks-at : goal.offset_bounds-marks-at
offset_bounds-marks-at c = omega (arith, few _ _ _ (sym c.may_begin.ensures ∙ c.if-may_begin.true))

pub bounds-marks-at : goal.bounds-marks-at
bounds-marks-at c =
    omega (arith, few _ _ _ (sym c.may_begin.ensures ∙ c.if-may_begin.true), c.requires.marks_length_lem)

pub overflow_add-marks : goal.overflow_add-marks
overflow_add-marks c = omega (arith, few _ _ _ (sym c.may_begin.ensures ∙ c.if-may_begin.true))

pub offset_bounds-marks-at-then-may_begin : goal.offset_bounds-marks-at-then-may_begin
offset_bounds-marks-at-then-may_begin c = omega (arith, few _ _ _ (sym c.may_begin.ensures ∙ c.if-may_begin.true))

pub bounds-marks-at-then-may_begin : goal.bounds-marks-at-then-may_begin
bounds-marks-at-then-may_begin c = omega (arith, few _ _ _ (sym c.may_begin.ensures ∙ c.if-may_begin.true))

pub overflow_add-midnights : goal.overflow_add-midnights
overflow_add-midnights c = omega (arith, few _ _ _ (sym c.may_begin.ensures ∙ c.if-may_begin.true))

pub returns-then-may_begin : goal.returns-then-may_begin
returns-then-may_begin c =
    midnight_taken _ _ _ _ _ (sym c.may_begin.ensures ∙ c.if-may_begin.true) c.requires.marks_length_lem
    c.begin_day.ensures

pub returns : goal.returns
returns c =
    midnight_refused _ _ _ _ _ (sym c.may_begin.ensures ∙ c.if-may_begin.false) c.requires.marks_length_lem c.stop.ensures
