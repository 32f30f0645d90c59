-- `conditional_rooms::survey` meets its contract: each answer crosses as it is told, and the room is the survey's. Assumes nothing.
use mathlib.Core.Path.{sym, ap, ◌∙◌}
use Rattle.refusal.proofs.Crossings.{crosses_gives, crosses_refuses}
use Rattle.conditional.specs.Conditional.{told_surveyed}
use Rattle.conditional_rooms.proofs.survey.Goals as goal

-- refused
pub returns-in-Refused : goal.returns-in-Refused
returns-in-Refused c =
    record {
      answer =
          crosses_refuses _ _ _ _ c.from.ensures
          (sym c.survey.ensures.answer ∙ ap told_surveyed c.in-Refused.is);
      bytes = c.survey.ensures.room;
    }

-- surveyed
pub returns-in-Passed : goal.returns-in-Passed
returns-in-Passed c =
    record {
      answer =
          crosses_gives _ _ _
          (sym c.survey.ensures.answer ∙ ap told_surveyed c.in-Passed.is);
      bytes = c.survey.ensures.room;
    }
