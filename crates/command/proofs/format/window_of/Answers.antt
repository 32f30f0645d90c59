-- `command::format::window_of` meets its contract: each return is what the tests on the way show of the window. Assumes nothing.
use Rattle.command.proofs.Windows.{seen_malformed, seen_broken, seen_accepted}
use Rattle.layout.proofs.Rows.{ruled, unruled, window_span}
use Rattle.layout.proofs.Window.{form_size, rule_bounds}
use native.Mathlib.Omega.{arith}
use mathlib.Core.Path.{◌∙◌, sym}
use Rattle.command.proofs.format.window_of.Goals as goal

pub returns-then-not-well_formed : goal.returns-then-not-well_formed
returns-then-not-well_formed c =
    seen_malformed _ _ _ _ _ _ _ c.pitch-pitch.ensures c.code.ensures c.size-size.ensures c.tiled-tiled.ensures
    (sym c.well_formed-2.ensures ∙ c.if-not-well_formed.true)

pub stream_stride-row-requires : goal.stream_stride-row-requires
stream_stride-row-requires c = sym c.well_formed-2.ensures ∙ c.if-not-well_formed.false

pub returns-then-row-lt1 : goal.returns-then-row-lt1
returns-then-row-lt1 c =
    let formed = sym c.well_formed-2.ensures ∙ c.if-not-well_formed.false in
    seen_broken _ _ _ _ _ _ _ c.pitch-pitch.ensures c.code.ensures c.size-size.ensures c.tiled-tiled.ensures
    formed
    (unruled _ _ _ _ _ formed _ c.stream_stride-row.ensures c.if-row-lt1.true)

pub row_step-requires : goal.row_step-requires
row_step-requires c = form_size _ _ _ (sym c.well_formed-2.ensures ∙ c.if-not-well_formed.false)

pub rows_taken-requires : goal.rows_taken-requires
rows_taken-requires c =
    let formed = sym c.well_formed-2.ensures ∙ c.if-not-well_formed.false in
    (form_size _ _ _ formed, (rule_bounds _ _ _ _ _ (ruled _ _ _ _ _ formed _ c.stream_stride-row.ensures c.if-row-lt1.false).rule).height_most)

pub overflow_mul-result : goal.overflow_mul-result
overflow_mul-result c =
    let formed = sym c.well_formed-2.ensures ∙ c.if-not-well_formed.false in
    let kept = ruled _ _ _ _ _ formed _ c.stream_stride-row.ensures c.if-row-lt1.false in
    omega
    (arith, (window_span _ _ _ _ _ formed _ _ kept c.rows_taken.ensures).1)

pub returns : goal.returns
returns c =
    let formed = sym c.well_formed-2.ensures ∙ c.if-not-well_formed.false in
    let kept = ruled _ _ _ _ _ formed _ c.stream_stride-row.ensures c.if-row-lt1.false in
    seen_accepted _ _ _ _ _ _ _ c.pitch-pitch.ensures c.code.ensures c.size-size.ensures c.tiled-tiled.ensures
    formed _ _ c.row_step.ensures
    (window_span _ _ _ _ _ formed _ _ kept c.rows_taken.ensures).0
    kept.rule
