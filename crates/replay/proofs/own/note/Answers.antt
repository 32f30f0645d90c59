-- `replay::own::note` meets its contract. Assumes nothing.
use Rattle.replay.proofs.Changes.{notes, notes_not}
use Rattle.replay.proofs.own.note.Goals as goal

pub returns-then-log-eq0 : goal.returns-then-log-eq0
returns-then-log-eq0 c = notes _ _ c.told-log c.if-log-eq0.true

pub returns-else-log-eq0 : goal.returns-else-log-eq0
returns-else-log-eq0 c = notes_not _ _ c.told-log c.if-log-eq0.false
