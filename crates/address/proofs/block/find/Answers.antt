-- `address::block::find` meets its contract. Assumes nothing.
use Rattle.address.proofs.Blocks.{block_x_of, block_y_of}
use Rattle.address.proofs.block.find.Goals as goal

pub returns : goal.returns
returns c =
    record { column = block_x_of _ _ _ _ _ c.flip-x2.ensures.value c.flip-y2.ensures.value _ c.flip-x1.ensures.value; row = block_y_of _ _ _ _ _ c.flip-x2.ensures.value c.flip-y2.ensures.value _ c.flip-y1.ensures.value }
