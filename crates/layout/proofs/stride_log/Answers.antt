-- `layout::stride_log` meets its contract: the power read at the size, and 5. Assumes nothing.
use native.Mathlib.Omega.{arith}
use Rattle.layout.proofs.Powers.{stride_read}
use Rattle.layout.proofs.stride_log.Goals as goal

pub overflow_add-result : goal.overflow_add-result
overflow_add-result c = omega (arith, (stride_read _ _ _ _ c.requires c.power_at.ensures c.stride_logs.ensures).0)

pub returns : goal.returns
returns c =
    let both = stride_read _ _ _ _ c.requires c.power_at.ensures c.stride_logs.ensures in record { most = both.0; power = both.1 }
