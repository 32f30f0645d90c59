-- `start::ready::channel_bits` meets its contract: the bits read at each code. Assumes nothing.
use Rattle.start.proofs.Channels.{bits_past, bits_read}
use Rattle.start.proofs.ready.channel_bits.Goals as goal

pub returns-then-code-gt-LAST_CODE : goal.returns-then-code-gt-LAST_CODE
returns-then-code-gt-LAST_CODE c = bits_past _ _ c.if-code-gt-LAST_CODE.true

pub returns : goal.returns
returns c = bits_read _ _ c.if-code-gt-LAST_CODE.false
