-- `layout::rows_log` meets its contract: the power read at the size. Assumes nothing.
use Rattle.layout.proofs.Powers.{rows_read}
use Rattle.layout.proofs.rows_log.Goals as goal

pub returns : goal.returns
returns c =
    let both = rows_read _ _ _ _ c.requires c.power_at.ensures c.rows_logs.ensures in record { most = both.0; power = both.1 }
