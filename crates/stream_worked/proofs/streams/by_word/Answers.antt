-- `stream_worked::streams::by_word` is safe and ends; what it hands on came from the entries. Assumes nothing.
use Rattle.session.proofs.Handed.{first_given, word_given}
use Rattle.stream_worked.proofs.streams.by_word.Goals as goal

pub loop-i-init : goal.loop-i-init
loop-i-init c = first_given c.begin.ensures

pub loop-i-preserved : goal.loop-i-preserved
loop-i-preserved c = word_given _ _ c.loop-i.invariant c.word.ensures
