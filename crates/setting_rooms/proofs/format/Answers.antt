-- `setting_rooms::format` meets its contract: each answer crosses as it is told. Assumes nothing.
use mathlib.Core.Path.{sym, ap, ◌∙◌}
use Rattle.command.specs.Table.{told_line}
use Rattle.setting_rooms.specs.Rooms.{told_found}
use Rattle.refusal.proofs.Crossings.{crosses_gives, crosses_refuses}
use Rattle.command.proofs.Known.{on_line_lem, off_line}
use Rattle.setting_rooms.proofs.Formats.{setting_told, flag_from}
use Rattle.setting_rooms.proofs.format.Goals as goal

pub returns-in-None : goal.returns-in-None
returns-in-None c =
    crosses_refuses _ _ _ _ c.from.ensures
    (off_line _ _ _ (sym c.line_of.ensures ∙ ap told_line c.in-None.is))

pub returns-in-Err : goal.returns-in-Err
returns-in-Err c =
    crosses_refuses _ _ _ _ c.from-in-Err.ensures
    (on_line_lem _ _ _ _ (sym c.line_of.ensures ∙ ap told_line c.in-Some.is) ∙
    sym c.at_line.ensures ∙ ap told_found c.in-Err.is)

pub returns-in-Ok : goal.returns-in-Ok
returns-in-Ok c =
    crosses_gives _ _ _
    (on_line_lem _ _ _ _ (sym c.line_of.ensures ∙ ap told_line c.in-Some.is) ∙
    sym c.at_line.ensures ∙ ap told_found c.in-Ok.is ∙ setting_told _ _ (c.from-set.ensures ∙ flag_from _))
