-- `registers::kills` meets its contract: one of the four channels under the mask. Assumes nothing.
use Rattle.registers.proofs.Killing.{four_channels}
use Rattle.registers.proofs.kills.Goals as goal

-- the four tests are the definition's
pub returns : goal.returns
returns c =
    four_channels c.args.register
    c.under.ensures c.under-2.ensures c.under-3.ensures c.under-4.ensures
