-- `address::run::run_from` meets its contract: the two kinds of layout. Assumes nothing.
use Rattle.std.proofs.Common.{◌∙◌}
use Rattle.address.proofs.Runs.{run_tiled, run_linear}
use Rattle.address.proofs.run.run_from.Goals as goal

pub returns-then-tiled : goal.returns-then-tiled
returns-then-tiled c = c.group_rest.ensures ∙ run_tiled _ _ _ _ c.if-tiled.true

pub returns-else-tiled : goal.returns-else-tiled
returns-else-tiled c = c.row_rest.ensures ∙ run_linear _ _ _ _ c.if-tiled.false
