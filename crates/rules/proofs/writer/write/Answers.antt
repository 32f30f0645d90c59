-- `rules::writer::write` meets its contract: each answer with the room at return. Assumes nothing.
use mathlib.Core.Path.{sym}
use Rattle.std.proofs.lemmas.Result.{err_from_is_err_and}
use Rattle.rules.proofs.Room.{room_fits, write_refused, write_short, write_done}
use Rattle.command.proofs.WriteBack.{lined}
use Rattle.rules.proofs.writer.write.Goals as goal

pub returns-in_err-check_command : goal.returns-in_err-check_command
returns-in_err-check_command c =
    let p = err_from_is_err_and c.from_residual.result c.from_residual.ensures.1 in
    rw (p.1, p.2) (write_refused _ _ _ (sym c.in_err-check_command.ensures))

pub returns-then-room-words : goal.returns-then-room-words
returns-then-room-words c =
    write_short _ _ (sym c.in_ok-check_command.ensures) _ _ c.line-line.ensures c.parameters-count.ensures c.if-room-words.true

pub header-requires : goal.header-requires
header-requires c = rw c.line-line.ensures (lined c.args.command).line_most

pub put-requires : goal.put-requires
put-requires c = room_fits c.args.command _ _ _ c.line-line.ensures c.parameters-count.ensures c.if-room-words.false

pub returns : goal.returns
returns c =
    write_done _ _ (sym c.in_ok-check_command.ensures) _ _ c.line-line.ensures c.parameters-count.ensures _ _
    c.fields.result c.if-room-words.false c.header.ensures c.fields.ensures c.put.ensures
