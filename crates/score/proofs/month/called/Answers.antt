-- `score::month::called` meets its contract. Assumes nothing.
use Rattle.score.proofs.Scores.{called_nothing, called_full, called_less}
use Rattle.score.proofs.month.called.Goals as goal

pub returns-then-owed-eq0 : goal.returns-then-owed-eq0
returns-then-owed-eq0 c = called_nothing _ _ c.if-owed-eq0.true

pub returns-then-served-owed : goal.returns-then-served-owed
returns-then-served-owed c = called_full _ _ c.if-owed-eq0.false c.if-served-owed.true

pub returns : goal.returns
returns c = called_less _ _ c.if-owed-eq0.false c.if-served-owed.false
