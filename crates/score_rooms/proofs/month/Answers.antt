-- `score_rooms::month` meets its contract: each answer crosses as it is told. Assumes nothing.
use Rattle.score_rooms.proofs.Months.{numbered, month_refused, month_given}
use Rattle.score_rooms.proofs.month.Goals as goal

pub returns-in-Err : goal.returns-in-Err
returns-in-Err c = month_refused _ _ _ _ _ _ _ _ _ _ c.score.ensures _ c.in-Err.is

pub returns-in-Ok : goal.returns-in-Ok
returns-in-Ok c = month_given _ _ _ _ _ _ _ _ _ _ c.score.ensures _ c.in-Ok.is _ (numbered _)
