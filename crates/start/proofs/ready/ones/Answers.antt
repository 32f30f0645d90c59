-- `start::ready::ones` meets its contract: the digit read for each number of four bits. Assumes nothing.
use Rattle.start.proofs.Channels.{ones_read, ones_most}
use Rattle.start.proofs.ready.ones.Goals as goal

pub returns : goal.returns
returns c = record { value = ones_read _ c.requires; most = rw (ones_read _ c.requires) (ones_most _) }
