-- `command_rooms::write` meets its contract: each answer crosses as it is told. Assumes nothing.
use mathlib.Core.Path.{sym}
use Rattle.command.proofs.Headers.{accepted_listed}
use Rattle.refusal.proofs.Crossings.{crosses_refuses}
use Rattle.command.proofs.Known.{off_line}
use Rattle.command_rooms.proofs.Written.{words_cross, refusal_crosses}
use Rattle.command_rooms.proofs.write.Goals as goal

pub write_line-requires : goal.write_line-requires
write_line-requires c =
    let known = accepted_listed _ _ (sym c.in-Some.ensures) in
    (known.line, sym known.header)

pub returns-in-Err : goal.returns-in-Err
returns-in-Err c = refusal_crosses _ _ _ (sym c.in-Some.ensures) _ _ c.from-in-Err.ensures c.in-Err.ensures

pub returns-in-Ok : goal.returns-in-Ok
returns-in-Ok c = words_cross _ _ _ (sym c.in-Some.ensures) _ c.in-Ok.ensures

pub returns-in_default : goal.returns-in_default
returns-in_default c =
    record {
      answer = crosses_refuses _ _ _ _ c.from.ensures (off_line _ _ _ (sym c.in_default.ensures));
      room = sym (off_line _ _ _ (sym c.in_default.ensures));
    }
