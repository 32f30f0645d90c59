-- `rectangles::bulk::within` meets its contract, test by test. Assumes nothing.
use mathlib.Core.Path.{sym}
use native.Mathlib.Omega.{arith}
use Rattle.rectangles.proofs.Inside.{no_columns, no_rows, one_out, last_test}
use Rattle.rectangles.proofs.bulk.within.Goals as goal

pub returns-then-columns-eq0 : goal.returns-then-columns-eq0
returns-then-columns-eq0 c = sym (no_columns _ _ _ _ _ _ c.if-columns-eq0.true)

pub returns-then-rows-eq0 : goal.returns-then-rows-eq0
returns-then-rows-eq0 c = sym (no_rows _ _ _ _ _ _ c.if-rows-eq0.true)

pub returns-then-step-columns : goal.returns-then-step-columns
returns-then-step-columns c =
    let n1 = c.if-columns-eq0.false in
    let n2 = c.if-rows-eq0.false in
    sym (one_out _ _ _ _ _ _ (omega (arith, n1)) (omega (arith, n2)) (λ o. omega (arith, c.if-step-columns.true, o.0)))

pub returns-then-step-columns-2 : goal.returns-then-step-columns-2
returns-then-step-columns-2 c =
    let n1 = c.if-columns-eq0.false in
    let n2 = c.if-rows-eq0.false in
    sym (one_out _ _ _ _ _ _ (omega (arith, n1)) (omega (arith, n2)) (λ o. omega (arith, c.if-step-columns.false, c.if-step-columns-2.true, o.0)))

pub returns-then-height-rows : goal.returns-then-height-rows
returns-then-height-rows c =
    let n1 = c.if-columns-eq0.false in
    let n2 = c.if-rows-eq0.false in
    sym (one_out _ _ _ _ _ _ (omega (arith, n1)) (omega (arith, n2)) (λ o. omega (arith, c.if-height-rows.true, o.1)))

pub returns : goal.returns
returns c =
    let n1 = c.if-columns-eq0.false in
    let n2 = c.if-rows-eq0.false in
    last_test _ _ _ _ _ _ (omega (arith, n1)) (omega (arith, n2)) (omega (arith, c.if-step-columns.false, c.if-step-columns-2.false))
    (omega (arith, c.if-height-rows.false))
