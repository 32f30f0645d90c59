-- `layout::unit` meets its contract: the two kinds of layout. Assumes nothing.
use mathlib.Core.Path.{◌∙◌, sym}
use native.Mathlib.Omega.{arith}
use Rattle.laws.proofs.Choice.{pick_yes, pick_no}
use Rattle.layout.specs.Layout.{unit_of}
use Rattle.layout.proofs.Sizes.{tile}
use Rattle.layout.proofs.unit.Goals as goal

pub nonzero_div-result : goal.nonzero_div-result
nonzero_div-result c = omega (arith, (tile _ c.requires).s_pos)

pub returns-then-tiled : goal.returns-then-tiled
unfolding unit_of
returns-then-tiled c = c.tile_width.ensures ∙ sym (pick_yes _ _ c.if-tiled.true)

pub returns-else-tiled : goal.returns-else-tiled
unfolding unit_of
returns-else-tiled c = sym (pick_no _ _ c.if-tiled.false)
