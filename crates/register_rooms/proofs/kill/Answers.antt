-- `register_rooms::kill` meets its contract: each answer crosses as it is told. Assumes nothing.
use mathlib.Core.Path.{sym, ap, ◌∙◌}
use Rattle.refusal.proofs.Crossings.{crosses_gives, crosses_refuses}
use Rattle.kill.specs.Answers.{told_killed}
use Rattle.register_rooms.proofs.kill.Goals as goal

-- refused
pub returns-in-Err : goal.returns-in-Err
returns-in-Err c =
    record {
      answer =
          crosses_refuses _ _ _ _ c.from.ensures
          (sym c.kill.ensures.told ∙ ap told_killed c.in-Err.is);
      left = c.kill.ensures.left;
    }

-- made
pub returns-in-Ok : goal.returns-in-Ok
returns-in-Ok c =
    record {
      answer = crosses_gives _ _ _ (sym c.kill.ensures.told ∙ ap told_killed c.in-Ok.is);
      left = c.kill.ensures.left;
    }
