-- `layout::stride_by` meets its contract: a law for each return. Assumes nothing.
use Rattle.layout.proofs.Rows.{form_pitch, bytes_most, no_stride, long_stride, no_height, great_height, span_most, span_least, kept, too_high_lem}
use Rattle.layout.proofs.Powers.{cut_stride, unit_least, unit_fits, filled_rows}
use Rattle.layout.proofs.Window.{form_size, size_most}
use native.Mathlib.Omega.{arith}
use Rattle.layout.proofs.stride_by.Goals as goal

pub overflow_mul-stride : goal.overflow_mul-stride
overflow_mul-stride c = omega (arith, bytes_most _ _ (form_size _ _ _ c.requires.form) (form_pitch _ _ _ c.requires.form))

pub returns-then-stride-lt1 : goal.returns-then-stride-lt1
returns-then-stride-lt1 c =
    no_stride _ _ _ _ _ c.requires.form _
    (cut_stride _ _ _ _ (form_size _ _ _ c.requires.form) (form_pitch _ _ _ c.requires.form) c.requires.stride_unit)
    c.if-stride-lt1.true

pub overflow_mul-size : goal.overflow_mul-size
overflow_mul-size c = omega (arith, size_most _ (form_size _ _ _ c.requires.form))

pub returns-then-size-stride : goal.returns-then-size-stride
returns-then-size-stride c =
    long_stride _ _ _ _ _ c.requires.form _
    (cut_stride _ _ _ _ (form_size _ _ _ c.requires.form) (form_pitch _ _ _ c.requires.form) c.requires.stride_unit)
    c.if-size-stride.true

pub returns-then-height-lt1 : goal.returns-then-height-lt1
returns-then-height-lt1 c =
    no_height _ _ _ _ _ c.requires.form _
    (cut_stride _ _ _ _ (form_size _ _ _ c.requires.form) (form_pitch _ _ _ c.requires.form) c.requires.stride_unit)
    c.if-height-lt1.true

pub returns-then-height-gt-SIDE_MOST : goal.returns-then-height-gt-SIDE_MOST
returns-then-height-gt-SIDE_MOST c =
    great_height _ _ _ _ _ c.requires.form _
    (cut_stride _ _ _ _ (form_size _ _ _ c.requires.form) (form_pitch _ _ _ c.requires.form) c.requires.stride_unit)
    c.if-height-gt-SIDE_MOST.true

pub overflow_sub-rows : goal.overflow_sub-rows
overflow_sub-rows c = unit_least _ _ _ (form_size _ _ _ c.requires.form) c.requires.rows_unit

pub overflow_add-rows : goal.overflow_add-rows
overflow_add-rows c =
    omega (arith, unit_fits _ _ _ (form_size _ _ _ c.requires.form) c.requires.rows_unit _ c.if-height-gt-SIDE_MOST.false)

pub overflow_mul-rows : goal.overflow_mul-rows
overflow_mul-rows c =
    let cut-stride-here =
    cut_stride _ _ _ _ (form_size _ _ _ c.requires.form) (form_pitch _ _ _ c.requires.form) c.requires.stride_unit in
    let filled-rows-here = filled_rows _ _ _ (form_size _ _ _ c.requires.form) c.requires.rows_unit _ c.if-height-gt-SIDE_MOST.false in
    omega (
      arith,
      span_most _ _ _ _ _ c.requires.form _ cut-stride-here c.if-stride-lt1.false c.if-size-stride.false c.if-height-lt1.false c.if-height-gt-SIDE_MOST.false _
          filled-rows-here,
    )

pub overflow_sub-rows-2 : goal.overflow_sub-rows-2
overflow_sub-rows-2 c =
    let cut-stride-here =
    cut_stride _ _ _ _ (form_size _ _ _ c.requires.form) (form_pitch _ _ _ c.requires.form) c.requires.stride_unit in
    let filled-rows-here = filled_rows _ _ _ (form_size _ _ _ c.requires.form) c.requires.rows_unit _ c.if-height-gt-SIDE_MOST.false in
    omega (
      arith,
      span_least _ _ _ _ _ c.requires.form _ cut-stride-here c.if-stride-lt1.false c.if-size-stride.false c.if-height-lt1.false c.if-height-gt-SIDE_MOST.false _
          filled-rows-here,
    )

pub returns-then-base-rows : goal.returns-then-base-rows
returns-then-base-rows c =
    let cut-stride-here =
    cut_stride _ _ _ _ (form_size _ _ _ c.requires.form) (form_pitch _ _ _ c.requires.form) c.requires.stride_unit in
    too_high_lem _ _ _ _ _ c.requires.form _ cut-stride-here c.if-stride-lt1.false c.if-size-stride.false c.if-height-lt1.false c.if-height-gt-SIDE_MOST.false
    _ (filled_rows _ _ _ (form_size _ _ _ c.requires.form) c.requires.rows_unit _ c.if-height-gt-SIDE_MOST.false) c.if-base-rows.true

pub returns : goal.returns
returns c =
    let cut-stride-here =
    cut_stride _ _ _ _ (form_size _ _ _ c.requires.form) (form_pitch _ _ _ c.requires.form) c.requires.stride_unit in
    kept _ _ _ _ _ c.requires.form _ cut-stride-here c.if-stride-lt1.false c.if-size-stride.false c.if-height-lt1.false c.if-height-gt-SIDE_MOST.false _
    (filled_rows _ _ _ (form_size _ _ _ c.requires.form) c.requires.rows_unit _ c.if-height-gt-SIDE_MOST.false) c.ranges.base.fits
    c.if-base-rows.false
