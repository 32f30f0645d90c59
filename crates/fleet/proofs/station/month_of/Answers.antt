-- `fleet::station::month_of` meets its contract: 21 for a lease line with a number wider than 32 bits. Assumes nothing.
use mathlib.Core.Path.{ap}
use Rattle.std.proofs.Common.{Err}
use Rattle.refusal.specs.Number.{number_of}
use Rattle.std.proofs.lemmas.Result.{err_from_is_err_and}
use Rattle.score.specs.Answers.{lease_line}
use Rattle.fleet.proofs.Months.{wide_day, wide_days, wide_owed}
use Rattle.fleet.proofs.station.narrow.Reads as narrow_reads
use Rattle.fleet.proofs.station.replayed.Reads as replayed_reads
use Rattle.fleet.proofs.station.month_of.Goals as goal

pub returns-in_err-narrow : goal.returns-in_err-narrow
returns-in_err-narrow c =
    let p = err_from_is_err_and c.from_residual.result c.from_residual.ensures.1 in
    rw (p.1, p.2) (wide_day _ (lease_line _ _ _) _ c.in_err-narrow.ensures.1 (ap Err (ap number_of c.in_err-narrow.ensures.0)))

pub returns-in_err-narrow-2 : goal.returns-in_err-narrow-2
returns-in_err-narrow-2 c =
    let p = err_from_is_err_and c.from_residual-in_err-narrow-2.result c.from_residual-in_err-narrow-2.ensures.1 in
    rw (p.1, p.2) (wide_days _ (lease_line _ _ _) _ c.in_err-narrow-2.ensures.1 (ap Err (ap number_of c.in_err-narrow-2.ensures.0)))

pub returns-in_err-narrow-3 : goal.returns-in_err-narrow-3
returns-in_err-narrow-3 c =
    let p = err_from_is_err_and c.from_residual-in_err-narrow-3.result c.from_residual-in_err-narrow-3.ensures.1 in
    rw (p.1, p.2) (wide_owed _ (lease_line _ _ _) _ c.in_err-narrow-3.ensures.1 (ap Err (ap number_of c.in_err-narrow-3.ensures.0)))

pub returns : goal.returns
returns c = rw (c.in_ok-narrow.ensures, c.in_ok-narrow-2.ensures, c.in_ok-narrow-3.ensures) at c.replayed.ensures
