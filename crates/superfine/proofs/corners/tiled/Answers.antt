-- `superfine::corners::tiled` meets its contract: each arm hands over its size. Assumes nothing.
use mathlib.Core.Path.{◌∙◌}
use mathlib.Core.Bool.{true}
use Rattle.superfine.proofs.Around.{asked_at, corners_at_lem}
use Rattle.superfine.proofs.corners.tiled.Goals as goal

pub tiled_2-requires : goal.tiled_2-requires
tiled_2-requires c = asked_at _ _ _ true _ _ 2 c.in-2.is c.requires

pub tiled_4-requires : goal.tiled_4-requires
tiled_4-requires c = asked_at _ _ _ true _ _ 4 c.in-4.is c.requires

pub returns-in-2 : goal.returns-in-2
returns-in-2 c = c.tiled_2.ensures ∙ corners_at_lem _ _ _ true _ _ 2 c.in-2.is

pub returns-in-4 : goal.returns-in-4
returns-in-4 c = c.tiled_4.ensures ∙ corners_at_lem _ _ _ true _ _ 4 c.in-4.is
