-- `log::stream::take_words` meets its contract. Assumes nothing.
use Rattle.session.specs.Feed.{first}
use Rattle.session.specs.Answers.{first_of}
use mathlib.Core.Path.{sym, ap, ◌∙◌}
use Rattle.station_log.proofs.Steps.{words_fine, words_noted}
use Rattle.station_log.proofs.stream.take_words.Goals as goal

pub returns-in-Some : goal.returns-in-Some
returns-in-Some c = words_noted _ _ _ _ _ _ _ _ _
    c.requires.session_given _
    c.feed-piece.ensures _ _
    c.close.ensures c.note.ensures
    (ap first c.from.ensures ∙ sym (ap first_of c.in-Some.is)
    ∙ c.feed-piece.ensures.refusal)

pub returns-in_default : goal.returns-in_default
returns-in_default c = words_fine _ _ _ _ _ _ _ _ _ c.requires.session_given _
    c.feed-piece.ensures c.close.ensures
    (sym (ap first_of c.in_default.is) ∙ c.feed-piece.ensures.refusal)
