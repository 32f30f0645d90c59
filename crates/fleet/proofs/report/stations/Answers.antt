-- `fleet::report::stations` meets its contract. Loop: the first stations are summed up, and none of them is refused. Assumes nothing.
use native.Mathlib.Omega.{arith}
use Rattle.std.proofs.lemmas.Result.{err_from_is_err_and}
use Rattle.fleet.proofs.Summing.{summing_begins, month_asked, start_fits, summing_refused, add_asked, summing_goes, summing_ends}
use Rattle.fleet.proofs.parts.add.Reads as add_reads
use Rattle.fleet.proofs.parts.none.Reads as none_reads
use Rattle.fleet.proofs.report.month_at.Reads as month_at_reads
use Rattle.fleet.proofs.report.stations.Goals as goal

pub loop-k-init : goal.loop-k-init
loop-k-init c = summing_begins _ _ _ c.requires c.none-fleet.ensures

pub month_at-requires : goal.month_at-requires
month_at-requires c = month_asked _ _ _ _ _ _ c.loop-k.invariant c.loop-k-test.true

pub returns-in_err-month : goal.returns-in_err-month
returns-in_err-month c =
    let p = err_from_is_err_and c.from_residual.result c.from_residual.ensures.1 in
    rw (p.1, p.2)
    (summing_refused _ _ _ _ _ _ c.loop-k.invariant c.month_at.ensures c.loop-k-test.true c.in_err-month.was)

pub add-fleet-requires : goal.add-fleet-requires
add-fleet-requires c =
    add_asked _ _ _ _ _ _ c.loop-k.invariant c.month_at.ensures c.loop-k-test.true c.in_ok-month.was

pub overflow_add-start : goal.overflow_add-start
overflow_add-start c =
    omega (arith, start_fits _ _ _ _ _ _ c.loop-k.invariant c.loop-k-test.true)

pub loop-k-preserved : goal.loop-k-preserved
loop-k-preserved c =
    summing_goes _ _ _ _ _ _ c.loop-k.invariant c.month_at.ensures c.loop-k-test.true c.in_ok-month.was
    c.add-fleet.ensures

pub returns : goal.returns
returns c = summing_ends _ _ _ _ _ _ c.loop-k.invariant c.loop-k-test.false
