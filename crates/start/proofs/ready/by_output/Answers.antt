-- `start::ready::by_output` meets its contract. Assumes nothing.
use Rattle.start.proofs.Readiness.{count_told_lem, digit_told}
use Rattle.start.proofs.ready.by_output.Goals as goal

pub returns : goal.returns
returns c =
    count_told_lem _ _ _ _ (digit_told _ c.from.ensures) (digit_told _ c.from-2.ensures) (digit_told _ c.from-3.ensures) (digit_told _ c.from-4.ensures)
