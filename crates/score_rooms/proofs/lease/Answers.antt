-- `score_rooms::lease` meets its contract: each answer crosses as it is told. Assumes nothing.
use mathlib.Core.Path.{sym, ap, ◌∙◌}
use Rattle.refusal.specs.Crossing.{status_of}
use Rattle.score_rooms.proofs.lease.Goals as goal

pub returns-in-Ok : goal.returns-in-Ok
returns-in-Ok c = ap status_of c.in-Ok.ensures

pub returns-in-Err : goal.returns-in-Err
returns-in-Err c = c.from.ensures ∙ ap status_of c.in-Err.ensures
