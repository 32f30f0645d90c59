-- `command::format::size` meets its contract: the number read at each code. Assumes nothing.
use Rattle.command.proofs.Windows.{size_past, size_read}
use Rattle.command.proofs.format.size.Goals as goal

pub returns-then-code-gt7 : goal.returns-then-code-gt7
returns-then-code-gt7 c = size_past _ c.if-code-gt7.true

pub returns : goal.returns
returns c = size_read _ c.if-code-gt7.false
