-- `group_rooms::begin` meets its contract: each answer crosses as it is told. Assumes nothing.
use mathlib.Core.Path.{sym, ap, ◌∙◌}
use Rattle.flow.specs.Answers.{told_begun}
use Rattle.refusal.specs.Crossing.{status_of}
use Rattle.group_rooms.proofs.begin.Goals as goal

pub returns-in-Err : goal.returns-in-Err
returns-in-Err c =
    record {
      status =
          c.from.ensures ∙ ap status_of
          (ap told_begun (sym c.in-Err.is) ∙ c.begin.ensures.told);
      left = c.begin.ensures.left;
    }

pub returns-in-Ok : goal.returns-in-Ok
returns-in-Ok c =
    record {
      status = ap status_of (ap told_begun (sym c.in-Ok.is) ∙ c.begin.ensures.told);
      left = c.begin.ensures.left;
    }
