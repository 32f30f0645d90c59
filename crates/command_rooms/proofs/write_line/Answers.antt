-- `command_rooms::write_line` meets its contract: by the tests of the line, or as the command is written. Assumes nothing.
use mathlib.Core.Path.{sym}
use native.Mathlib.Omega.{arith}
use Rattle.std.proofs.lemmas.Result.{err_from_is_err_and}
use Rattle.command_rooms.proofs.Written.{by_line, by_command, words_few}
use Rattle.command_rooms.proofs.write_line.Goals as goal

-- its words are written by the tests of the line
pub returns-in-Some : goal.returns-in-Some
returns-in-Some c = by_line _ _ _ _ c.in-Some.ensures

-- nothing was written: as the command is written, which finds its refusal
pub returns-in_err-words : goal.returns-in_err-words
returns-in_err-words c =
    let p = err_from_is_err_and c.from_residual.result c.from_residual.ensures.1 in
    rw (p.1, p.2) (by_command _ _ _ _ _ c.in_default.ensures (rw c.build.ensures at c.in_err-words.ensures))

pub overflow_cast-result : goal.overflow_cast-result
overflow_cast-result c =
    let written = c.in_ok-words.ensures in
    record { fits = omega (arith, words_few _ _ _ (sym written.answer)) }

pub returns : goal.returns
returns c = by_command _ _ _ _ _ c.in_default.ensures (rw c.build.ensures at c.in_ok-words.ensures)
