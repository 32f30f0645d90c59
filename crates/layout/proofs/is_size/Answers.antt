-- `layout::is_size` meets its contract: the sizes are the bits of one number. Assumes nothing.
use Rattle.layout.proofs.Sizes.{size_bit, past_sizes}
use Rattle.layout.proofs.is_size.Goals as goal

pub returns-then-size-gt-SIZE_MOST : goal.returns-then-size-gt-SIZE_MOST
returns-then-size-gt-SIZE_MOST c = past_sizes _ c.if-size-gt-SIZE_MOST.true

pub returns : goal.returns
returns c = size_bit _ c.if-size-gt-SIZE_MOST.false
