-- `accept::take_effectless` meets its contract. Assumes nothing.
use Rattle.accept.proofs.WholeCommands.{effectless_tried, effectless_denied}
use Rattle.accept.proofs.take_effectless.Goals as goal

pub returns-then-reserved-eq0 : goal.returns-then-reserved-eq0
returns-then-reserved-eq0 c = effectless_tried _ _ _ c.count_words.ensures _ c.if-reserved-eq0.true

pub returns-else-reserved-eq0 : goal.returns-else-reserved-eq0
returns-else-reserved-eq0 c what t h rest z = effectless_denied _ c.if-reserved-eq0.false what rest
