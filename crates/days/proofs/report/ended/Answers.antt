-- `days::report::ended` meets its contract. Assumes nothing.
use Rattle.state.specs.Cells.{party_of}
use mathlib.Core.Path.{sym, ◌∙◌}
use Rattle.replay.proofs.Marks.{ended_past, ended_now}
use Rattle.days.proofs.report.ended.Goals as goal

pub returns-then-k-midnights : goal.returns-then-k-midnights
returns-then-k-midnights c = c.mark.ensures ∙ sym (ended_past _ _ _ _ c.if-k-midnights.true)

pub returns-else-k-midnights : goal.returns-else-k-midnights
returns-else-k-midnights c = unfold party_of in sym (ended_now _ _ _ _ c.if-k-midnights.false)
