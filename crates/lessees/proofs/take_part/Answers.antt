-- `lessees::take_part` meets its contract: a run of one word is that word. Assumes nothing.
use Rattle.lessees.proofs.Telling.{one_left, one_run}
use Rattle.lessees.proofs.take_part.Goals as goal

-- one word
pub returns-then-end-from-eq1 : goal.returns-then-end-from-eq1
returns-then-end-from-eq1 c =
    one_run _ _ _ c.requires.1 c.if-end-from-eq1.true _ (one_left _ _ _ _ c.step.ensures c.add_word.ensures)
