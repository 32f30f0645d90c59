-- `command::table::count` meets its contract: the table's line. Assumes nothing.
use Rattle.command.specs.Table.{count_of}
use Rattle.command.proofs.table.count.Goals as goal

pub returns : goal.returns
unfolding count_of
returns c = c.count_at.ensures
