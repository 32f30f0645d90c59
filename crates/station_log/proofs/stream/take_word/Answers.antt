-- `log::stream::take_word` meets its contract. Assumes nothing.
use Rattle.station_log.proofs.Steps.{word_fine, word_noted}
use Rattle.station_log.proofs.stream.take_word.Goals as goal

pub returns-in-Err : goal.returns-in-Err
returns-in-Err c =
    word_noted _ _ _ _ _ _ _ _ _ c.requires.session_given _ c.step-answer.ensures c.close.ensures _ _ c.note.ensures _
    c.in-Err.is c.from.ensures

pub returns-in_default : goal.returns-in_default
returns-in_default c =
    word_fine _ _ _ _ _ _ _ _ _ c.requires.session_given _ c.step-answer.ensures c.close.ensures _ c.in_default.is
