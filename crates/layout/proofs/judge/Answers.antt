-- `layout::judge` meets its contract: each return is the judgement as far as the tests on the way decide it.
-- Assumes nothing.
use mathlib.Core.Path.{◌∙◌, sym}
use native.Mathlib.Omega.{arith}
use Rattle.layout.proofs.Window.{form_size, rule_bounds, judged_malformed, judged_broken, judged_accepted}
use Rattle.layout.proofs.Rows.{ruled, unruled, window_span}
use Rattle.layout.proofs.judge.Goals as goal

pub returns-then-not-well_formed : goal.returns-then-not-well_formed
returns-then-not-well_formed c = sym (judged_malformed _ _ _ _ _ (sym c.well_formed-2.ensures ∙ c.if-not-well_formed.true))

pub window_stride-stride-requires : goal.window_stride-stride-requires
window_stride-stride-requires c = sym c.well_formed-2.ensures ∙ c.if-not-well_formed.false

pub returns-then-stride-lt1 : goal.returns-then-stride-lt1
returns-then-stride-lt1 c =
    let well-formed-told = sym c.well_formed-2.ensures ∙ c.if-not-well_formed.false in
    let unruled-here = unruled _ _ _ _ _ well-formed-told _ c.window_stride-stride.ensures c.if-stride-lt1.true in
    sym (judged_broken _ _ _ _ _ well-formed-told unruled-here)

pub table_step-step-requires : goal.table_step-step-requires
table_step-step-requires c = form_size _ _ _ (sym c.well_formed-2.ensures ∙ c.if-not-well_formed.false)

pub table_rows-rows-requires : goal.table_rows-rows-requires
table_rows-rows-requires c =
    let well-formed-told = sym c.well_formed-2.ensures ∙ c.if-not-well_formed.false in
    let rule = (ruled _ _ _ _ _ well-formed-told _ c.window_stride-stride.ensures c.if-stride-lt1.false).rule in
    (form_size _ _ _ well-formed-told, (rule_bounds _ _ _ _ _ rule).height_most)

pub overflow_mul-result : goal.overflow_mul-result
overflow_mul-result c =
    let well-formed-told = sym c.well_formed-2.ensures ∙ c.if-not-well_formed.false in
    let ruled-here = ruled _ _ _ _ _ well-formed-told _ c.window_stride-stride.ensures c.if-stride-lt1.false in
    omega (arith, (window_span _ _ _ _ _ well-formed-told _ _ ruled-here c.table_rows-rows.ensures).1)

pub returns : goal.returns
returns c =
    let well-formed-told-2 = sym c.well_formed-2.ensures ∙ c.if-not-well_formed.false in
    let ruled-here = ruled _ _ _ _ _ well-formed-told-2 _ c.window_stride-stride.ensures c.if-stride-lt1.false in
    let well-formed-told = (window_span _ _ _ _ _ well-formed-told-2 _ _ ruled-here c.table_rows-rows.ensures).0 in
    let rule = ruled-here.rule in
    sym (judged_accepted _ _ _ _ _ well-formed-told-2 _ _ c.table_step-step.ensures well-formed-told rule)
