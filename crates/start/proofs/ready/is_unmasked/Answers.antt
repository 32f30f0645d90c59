-- `start::ready::is_unmasked` meets its contract: the remainder isn't 0 exactly when a channel's bit is set. Assumes nothing.
use Rattle.start.proofs.Channels.{unmasked_told}
use Rattle.start.proofs.ready.is_unmasked.Goals as goal

pub returns : goal.returns
returns c = unmasked_told _ _ c.code.ensures c.channel_bits.ensures
