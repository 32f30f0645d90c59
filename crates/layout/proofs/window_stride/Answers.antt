-- `layout::window_stride` meets its contract: the two kinds of layout. Assumes nothing.
use Rattle.layout.proofs.Powers.{linear_asked}
use Rattle.layout.proofs.Window.{form_size}
use Rattle.layout.specs.Layout.{stride_of}
use mathlib.Core.Bool.{Bool}
use mathlib.Core.Path.{◌∙◌, sym, ap}
use Rattle.layout.proofs.window_stride.Goals as goal

pub stride_log-requires : goal.stride_log-requires
stride_log-requires c = form_size _ _ _ c.requires

pub rows_log-requires : goal.rows_log-requires
rows_log-requires c = form_size _ _ _ c.requires

pub stride_by-requires : goal.stride_by-requires
stride_by-requires c =
    record {
      form = c.requires;
      stride_few = c.stride_log.ensures.most;
      stride_unit = c.stride_log.ensures.power;
      rows_few = c.rows_log.ensures.most;
      rows_unit = c.rows_log.ensures.power;
    }

pub stride_by-requires-else-tiled : goal.stride_by-requires-else-tiled
stride_by-requires-else-tiled c = linear_asked _ _ _ c.requires

pub returns-then-tiled : goal.returns-then-tiled
returns-then-tiled c =
    let args = c.args in
    c.stride_by.ensures ∙ sym (ap (λ (t : Bool). stride_of args.base args.pitch args.height args.size t) c.if-tiled.true)

pub returns-else-tiled : goal.returns-else-tiled
returns-else-tiled c =
    let args = c.args in
    c.stride_by-else-tiled.ensures ∙ sym (ap (λ (t : Bool). stride_of args.base args.pitch args.height args.size t) c.if-tiled.false)
