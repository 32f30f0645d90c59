-- `start::ready::channels` meets its contract: the ones among the mask bits of the format's channels, where the flag is 1. Assumes nothing.
use Rattle.start.proofs.Channels.{four_bits, channels_set, channels_unset}
use Rattle.start.proofs.ready.channels.Goals as goal

pub ones-requires : goal.ones-requires
ones-requires c = four_bits _ _ c.code.ensures c.channel_bits.ensures

pub returns-then-flag-eq1 : goal.returns-then-flag-eq1
returns-then-flag-eq1 c =
    let both = channels_set _ _ _ c.if-flag-eq1.true c.code.ensures c.channel_bits.ensures (c.ones.ensures.value, c.ones.ensures.most) in record { value = both.0; most = both.1 }

pub returns-else-flag-eq1 : goal.returns-else-flag-eq1
returns-else-flag-eq1 c =
    let both = channels_unset _ _ _ c.if-flag-eq1.false in record { value = both.0; most = both.1 }
