-- `start::ready::columns` meets its contract. Assumes nothing.
use mathlib.Core.Path.{◌∙◌}
use Rattle.start.proofs.Readiness.{columns_told, lesser_min}
use Rattle.start.proofs.ready.columns.Goals as goal

pub returns : goal.returns
returns c =
    columns_told _ _ _ _ c.extent_left.ensures (c.min-last.ensures ∙ lesser_min _ _) c.extent_left-2.ensures (c.min-later.ensures ∙ lesser_min _ _)
    c.extent_left-3.ensures (c.min-latest.ensures ∙ lesser_min _ _) c.extent_left-4.ensures (c.min.ensures ∙ lesser_min _ _)
