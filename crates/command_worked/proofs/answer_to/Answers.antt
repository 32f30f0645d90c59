-- `command_worked::answer_to` is safe and ends; what it hands on came from the entries. Assumes nothing.
use mathlib.Core.Path.{sym}
use lib.Seq.{length-take-le}
use Rattle.command_worked.proofs.answer_to.Goals as goal

pub slice_bounds-last_answer-end : goal.slice_bounds-last_answer-end
slice_bounds-last_answer-end c =
    sym (length-take-le c.args.count c.args.room.now c.if-count-room.false)
