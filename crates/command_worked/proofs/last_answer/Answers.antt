-- `command_worked::last_answer` is safe and ends; what it hands on came from the entries. Assumes nothing.
use Rattle.session.proofs.Handed.{first_given, word_given}
use Rattle.command_worked.proofs.last_answer.Goals as goal

pub loop-word-init : goal.loop-word-init
loop-word-init c = first_given c.begin.ensures

pub word-answer-requires : goal.word-answer-requires
word-answer-requires c = c.loop-word.invariant

pub loop-word-preserved : goal.loop-word-preserved
loop-word-preserved c =
    word_given _ _ c.loop-word.invariant c.word-answer.ensures
