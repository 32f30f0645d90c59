-- `group_rooms::run` meets its contract: each answer crosses as it is told. Assumes nothing.
use mathlib.Core.Path.{sym, ap, ◌∙◌}
use mathlib.Core.List.{[], ◌∷◌}
use Rattle.refusal.specs.Told.{gives}
use Rattle.flow.specs.Answers.{told_ran}
use Rattle.refusal.proofs.Crossings.{crosses_gives, crosses_refuses}
use Rattle.group_rooms.proofs.run.Goals as goal

pub returns-in-Err : goal.returns-in-Err
returns-in-Err c =
    record {
      answer =
          crosses_refuses _ _ _ _ c.from.ensures
          (sym c.run.ensures.told ∙ ap told_ran c.in-Err.is);
      left = c.run.ensures.left;
    }

pub returns-in-Ok : goal.returns-in-Ok
returns-in-Ok c =
    record {
      answer =
          crosses_gives _ _ _
          (sym c.run.ensures.told ∙ ap told_ran c.in-Ok.is ∙
          (λ j. gives (c.in-Ok.ran.steps ∷ sym c.from-in-Ok.ensures j ∷ sym c.from-in-Ok-2.ensures j ∷ [])));
      left = c.run.ensures.left;
    }
