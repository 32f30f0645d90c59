-- `layout::rows_unit` meets its contract: the two kinds of layout. Assumes nothing.
use mathlib.Core.Path.{◌∙◌, sym}
use Rattle.laws.proofs.Choice.{pick_yes, pick_no}
use Rattle.layout.proofs.rows_unit.Goals as goal

pub returns-then-tiled : goal.returns-then-tiled
returns-then-tiled c = c.tile_height.ensures ∙ sym (pick_yes _ _ c.if-tiled.true)

pub returns-else-tiled : goal.returns-else-tiled
returns-else-tiled c = sym (pick_no _ _ c.if-tiled.false)
