-- `kill::take_out` meets its contract: the masks that it stores are those of the group after the kill. Assumes nothing.
use Rattle.kill.proofs.Taking.{few_channels, taken_out}
use Rattle.kill.proofs.take_out.Goals as goal

pub kill_mask-requires : goal.kill_mask-requires
kill_mask-requires c =
    few_channels c.args.cells.now c.requires.given c.args.registers.now c.args.mask c.requires.whole

-- the cells are stored
pub returns : goal.returns
returns c =
    taken_out c.args.cells.now c.requires.given c.args.registers.now c.args.mask c.requires.whole
    c.kill_mask.ensures c.both-gone.ensures c.without.ensures c.without-2.ensures
    c.either.ensures c.put.ensures
