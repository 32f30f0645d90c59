-- `log::stream::begin` meets its contract. Assumes nothing.
use mathlib.Core.Path.{refl}
use native.Mathlib.Omega.{arith}
use Rattle.std.proofs.lemmas.Result.{err_from_is_err_and}
use Rattle.station_log.proofs.Handed.{begins, begins_not}
use Rattle.station_log.proofs.Steps.{number_between}
use Rattle.station_log.proofs.stream.begin.Goals as goal

pub returns-in_err-begin : goal.returns-in_err-begin
returns-in_err-begin c =
    -- the session was refused, and nothing was touched
    let p = err_from_is_err_and c.from_residual.result c.from_residual.ensures.1 in
    rw (p.1, p.2)
    (begins_not _ c.in_err-begin.ensures (λ z. omega (arith, z, (number_between c.in_err-begin.field-0.0).0)))

pub returns : goal.returns
returns c =
    -- the session was begun, and the replay with it
    begins _ c.in_ok-begin.ensures refl
