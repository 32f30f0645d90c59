-- `session_rooms::word` meets its contract: each answer crosses as it is told. Assumes nothing.
use mathlib.Core.Path.{sym, ap, ◌∙◌}
use Rattle.std.specs.Prelude.{Ok}
use Rattle.command.proofs.WriteBack.{lined}
use Rattle.session.specs.Answers.{reply_of}
use Rattle.session_rooms.specs.Rooms.{reply_told}
use Rattle.refusal.proofs.Crossings.{crosses_gives, crosses_refuses}
use Rattle.session_rooms.proofs.Words.{done_told}
use Rattle.session_rooms.proofs.word.Goals as goal

pub made_header-header-requires : goal.made_header-header-requires
made_header-header-requires c = rw c.line.ensures (lined _).line_most

pub returns-in-Err : goal.returns-in-Err
returns-in-Err c =
    record {
      answer =
          crosses_refuses _ _ _ _ c.from.ensures
          (ap reply_told (sym c.word.ensures.reply ∙ ap reply_of c.in-Err.is));
      held = c.word.ensures.held;
    }

pub returns-in-Ok-None : goal.returns-in-Ok-None
returns-in-Ok-None c =
    record {
      answer =
          crosses_gives _ _ _ (ap reply_told (sym c.word.ensures.reply ∙ ap reply_of (c.in-Ok-None.is ∙ ap Ok c.in-Ok-None.field-0-is)));
      held = c.word.ensures.held;
    }

pub returns-in-Ok-Some : goal.returns-in-Ok-Some
returns-in-Ok-Some c =
    record {
      answer =
          crosses_gives _ _ _
          (ap reply_told (sym c.word.ensures.reply ∙ ap reply_of (c.in-Ok-Some.is ∙ ap Ok c.in-Ok-Some.field-0-is)) ∙
          done_told _ _ _ _ c.made_header-header.ensures c.line.ensures c.fields-places.ensures);
      held = c.word.ensures.held;
    }
