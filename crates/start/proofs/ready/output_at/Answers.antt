-- `start::ready::output_at` meets its contract. Assumes nothing.
use Rattle.start.proofs.Readiness.{output_told}
use Rattle.start.proofs.ready.output_at.Goals as goal

pub returns : goal.returns
returns c =
    output_told _ _ _ _ _ _ _ _ c.shown-flag.ensures c.is_counted-counts.ensures
