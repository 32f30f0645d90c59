-- `command::table::header` meets its contract: the table's line. Assumes nothing.
use Rattle.command.specs.Table.{header_of}
use Rattle.command.proofs.table.header.Goals as goal

pub returns : goal.returns
unfolding header_of
returns c = c.header_at.ensures
