-- `score_rooms::judge` meets its contract: the edition first, then the line. Assumes nothing.
use Rattle.score_rooms.proofs.Lines.{line_judged, edition_refused}
use Rattle.score_rooms.proofs.judge.Goals as goal

pub returns-then-not-is_known : goal.returns-then-not-is_known
returns-then-not-is_known c = edition_refused _ _ c.is_known.ensures c.if-not-is_known.true

pub returns : goal.returns
returns c = line_judged _ _ c.is_known.ensures c.if-not-is_known.false c.judge.ensures
