-- `rules::writer::check_command` meets its contract: the fields' refusal, or the rules' answer. Assumes nothing.
use mathlib.Core.Path.{ap}
use Rattle.command.specs.Kinds.{told_checked}
use Rattle.command.proofs.WriteBack.{lined}
use Rattle.rules.proofs.Judging.{command_refused, command_ruled}
use Rattle.rules.proofs.writer.check_command.Goals as goal

pub check_places-checked-requires : goal.check_places-checked-requires
check_places-checked-requires c = rw c.line.ensures (lined c.args.command).line_most

pub returns-in_default : goal.returns-in_default
returns-in_default c =
    command_refused _ _ c.fields.result _ c.line.ensures c.fields.ensures
    c.check_places-checked.ensures _ (ap told_checked c.in_default.is)

pub returns : goal.returns
returns c =
    command_ruled _ _ c.fields.result _ c.line.ensures c.fields.ensures
    c.check_places-checked.ensures _ (ap told_checked c.in-Ok.is) c.last_rule.ensures
