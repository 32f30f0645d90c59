-- `rectangles::plan::split` meets its contract. Assumes nothing.
use Rattle.rectangles.proofs.Plans.{plain_plan, split_fits, split_plan}
use Rattle.rectangles.proofs.plan.split.Goals as goal

pub overflow_mul-lead : goal.overflow_mul-lead
overflow_mul-lead c =
    (split_fits _ _ _ _ c.tile_width-width.ensures.1 c.tile_width-width.ensures.2 c.tile_width-width.ensures.3
    c.requires.1 c.if-first-end.true).0

pub overflow_sub-lead : goal.overflow_sub-lead
overflow_sub-lead c =
    (split_fits _ _ _ _ c.tile_width-width.ensures.1 c.tile_width-width.ensures.2 c.tile_width-width.ensures.3
    c.requires.1 c.if-first-end.true).1

pub overflow_mul-inner : goal.overflow_mul-inner
overflow_mul-inner c =
    (split_fits _ _ _ _ c.tile_width-width.ensures.1 c.tile_width-width.ensures.2 c.tile_width-width.ensures.3
    c.requires.1 c.if-first-end.true).2

pub overflow_mul-tail : goal.overflow_mul-tail
overflow_mul-tail c =
    (split_fits _ _ _ _ c.tile_width-width.ensures.1 c.tile_width-width.ensures.2 c.tile_width-width.ensures.3
    c.requires.1 c.if-first-end.true).3

pub overflow_sub-tail : goal.overflow_sub-tail
overflow_sub-tail c =
    (split_fits _ _ _ _ c.tile_width-width.ensures.1 c.tile_width-width.ensures.2 c.tile_width-width.ensures.3
    c.requires.1 c.if-first-end.true).4

pub returns-then-first-end : goal.returns-then-first-end
returns-then-first-end c =
    split_plan _ _ _ _ c.tile_width-width.ensures.1 c.tile_width-width.ensures.2 c.tile_width-width.ensures.3
    c.requires.1 c.if-first-end.true

pub returns-else-first-end : goal.returns-else-first-end
returns-else-first-end c = plain_plan _ _ _ _ c.plain.ensures
