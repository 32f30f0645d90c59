-- `score::day::has_midnight` meets its contract. Assumes nothing.
use mathlib.Core.Path.{◌∙◌}
use borrow.Author.Tests.{lt-leb}
use Rattle.score.proofs.Dates.{no_later, by_distance}
use Rattle.score.proofs.day.has_midnight.Goals as goal

pub returns-then-day-last : goal.returns-then-day-last
returns-then-day-last c = by_distance _ _ _ c.if-day-last.true

pub returns-else-day-last : goal.returns-else-day-last
returns-else-day-last c = lt-leb _ _ c.if-day-last.false ∙ no_later _ _ _ c.if-day-last.false
