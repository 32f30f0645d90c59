-- `address::sized` meets its contract: a law for each return. Assumes nothing.
use Rattle.std.proofs.Common.{sym, ◌∙◌, arith}
use Rattle.address.specs.Address.{translate_of, layout_of}
use Rattle.address.proofs.Answers.{told_refused, ruleless, taken, whole, bytes_fit, past_all, past_row, in_row}
use Rattle.address.proofs.Answers.{outside_column, outside_row, pair_asked, address_fits, run_few, translated}
use Rattle.address.proofs.sized.Goals as goal

-- the window rule is broken
pub returns-then-stride-lt1 : goal.returns-then-stride-lt1
unfolding translate_of
returns-then-stride-lt1 c =
    let args = c.args in
    let layout = layout_of args.base args.pitch args.height args.size args.tiled in
    told_refused 6 ∙ sym (ruleless layout _ c.requires _ c.window_stride-stride.ensures c.if-stride-lt1.true)

-- the column is past every row
pub returns-then-x-gt-STEP_MOST : goal.returns-then-x-gt-STEP_MOST
returns-then-x-gt-STEP_MOST c =
    let args = c.args in
    let layout = layout_of args.base args.pitch args.height args.size args.tiled in
    let taken_here = taken layout c.requires _ c.window_stride-stride.ensures c.if-stride-lt1.false in
    told_refused 10 ∙ sym (outside_column layout _ taken_here _ _ (past_all layout c.requires _ c.window_stride-stride.ensures c.if-stride-lt1.false _ c.if-x-gt-STEP_MOST.true))

pub overflow_mul-x : goal.overflow_mul-x
overflow_mul-x c =
    let args = c.args in
    let layout = layout_of args.base args.pitch args.height args.size args.tiled in
    omega (arith, bytes_fit layout c.requires _ c.window_stride-stride.ensures c.if-stride-lt1.false args.x c.if-x-gt-STEP_MOST.false)

-- the column is past the row
pub returns-then-stride-x : goal.returns-then-stride-x
returns-then-stride-x c =
    let args = c.args in
    let layout = layout_of args.base args.pitch args.height args.size args.tiled in
    let taken_here = taken layout c.requires _ c.window_stride-stride.ensures c.if-stride-lt1.false in
    told_refused 10 ∙ sym (outside_column layout _ taken_here _ _ (past_row layout c.requires _ c.window_stride-stride.ensures c.if-stride-lt1.false _ c.if-stride-x.true))

-- the row is past the window's last
pub returns-then-height-y : goal.returns-then-height-y
returns-then-height-y c =
    let args = c.args in
    let layout = layout_of args.base args.pitch args.height args.size args.tiled in
    let taken_here = taken layout c.requires _ c.window_stride-stride.ensures c.if-stride-lt1.false in
    told_refused 10 ∙ sym (outside_row layout _ taken_here _ _ c.if-height-y.true)

pub offset-offset-requires : goal.offset-offset-requires
offset-offset-requires c =
    let args = c.args in
    let layout = layout_of args.base args.pitch args.height args.size args.tiled in
    let taken_here = taken layout c.requires _ c.window_stride-stride.ensures c.if-stride-lt1.false in
    let in-row-here = in_row layout c.requires _ c.window_stride-stride.ensures c.if-stride-lt1.false _ c.if-stride-x.false in
    (pair_asked layout _ taken_here _ _ in-row-here c.if-height-y.false, whole layout c.requires _ c.window_stride-stride.ensures c.if-stride-lt1.false)

pub run_from-run-requires : goal.run_from-run-requires
run_from-run-requires c =
    let args = c.args in
    let layout = layout_of args.base args.pitch args.height args.size args.tiled in
    let taken_here = taken layout c.requires _ c.window_stride-stride.ensures c.if-stride-lt1.false in
    let in-row-here = in_row layout c.requires _ c.window_stride-stride.ensures c.if-stride-lt1.false _ c.if-stride-x.false in
    let asked = pair_asked layout _ taken_here _ _ in-row-here c.if-height-y.false in
    (asked.size, c.if-stride-x.false, whole layout c.requires _ c.window_stride-stride.ensures c.if-stride-lt1.false)

pub overflow_add-result : goal.overflow_add-result
overflow_add-result c =
    let args = c.args in
    let layout = layout_of args.base args.pitch args.height args.size args.tiled in
    let taken_here = taken layout c.requires _ c.window_stride-stride.ensures c.if-stride-lt1.false in
    let in-row-here = in_row layout c.requires _ c.window_stride-stride.ensures c.if-stride-lt1.false _ c.if-stride-x.false in
    record { fits = address_fits layout _ taken_here _ _ in-row-here c.if-height-y.false _ c.offset-offset.ensures }

pub overflow_add-result-2 : goal.overflow_add-result-2
overflow_add-result-2 c =
    let args = c.args in
    let layout = layout_of args.base args.pitch args.height args.size args.tiled in
    let taken_here = taken layout c.requires _ c.window_stride-stride.ensures c.if-stride-lt1.false in
    let in-row-here = in_row layout c.requires _ c.window_stride-stride.ensures c.if-stride-lt1.false _ c.if-stride-x.false in
    let inside-here = c.if-height-y.false in
    let at_address = c.offset-offset.ensures in
    let few = run_few layout _ taken_here _ _ in-row-here inside-here _ at_address _ c.run_from-run.ensures in
    let fits = address_fits layout _ taken_here _ _ in-row-here inside-here _ at_address in
    record { fits = omega (arith, few, fits) }

-- the pair is inside
pub returns : goal.returns
returns c =
    let args = c.args in
    let layout = layout_of args.base args.pitch args.height args.size args.tiled in
    let taken_here = taken layout c.requires _ c.window_stride-stride.ensures c.if-stride-lt1.false in
    let in-row-here = in_row layout c.requires _ c.window_stride-stride.ensures c.if-stride-lt1.false _ c.if-stride-x.false in
    translated layout _ taken_here _ _ in-row-here c.if-height-y.false _ c.offset-offset.ensures _ c.run_from-run.ensures
