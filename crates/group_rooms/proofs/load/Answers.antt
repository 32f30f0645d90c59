-- `group_rooms::load` meets its contract: each answer crosses as it is told. Assumes nothing.
use mathlib.Core.Path.{sym, ap, ◌∙◌}
use Rattle.flow.specs.Answers.{told_loaded}
use Rattle.refusal.proofs.Crossings.{crosses_gives, crosses_refuses}
use Rattle.group_rooms.proofs.load.Goals as goal

pub returns-in-Err : goal.returns-in-Err
returns-in-Err c =
    record {
      answer =
          crosses_refuses _ _ _ _ c.from.ensures
          (sym c.load.ensures.told ∙ ap told_loaded c.in-Err.is);
      left_firsts = c.load.ensures.left_firsts;
      left_seconds = c.load.ensures.left_seconds;
    }

pub returns-in-Ok : goal.returns-in-Ok
returns-in-Ok c =
    record {
      answer = crosses_gives _ _ _ (sym c.load.ensures.told ∙ ap told_loaded c.in-Ok.is);
      left_firsts = c.load.ensures.left_firsts;
      left_seconds = c.load.ensures.left_seconds;
    }
