-- `layout::stream_stride` meets its contract. Assumes nothing.
use Rattle.layout.proofs.Window.{form_size}
use Rattle.layout.proofs.stream_stride.Goals as goal

pub stride_log-requires : goal.stride_log-requires
stride_log-requires c = form_size _ _ _ c.requires

pub rows_log-requires : goal.rows_log-requires
rows_log-requires c = form_size _ _ _ c.requires

pub stride_by-requires : goal.stride_by-requires
stride_by-requires c =
    record {
      form = c.requires;
      stride_few = c.stride_log.ensures.most;
      stride_unit = c.stride_log.ensures.power;
      rows_few = c.rows_log.ensures.most;
      rows_unit = c.rows_log.ensures.power;
    }
