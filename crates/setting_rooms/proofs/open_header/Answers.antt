-- `setting_rooms::open_header` meets its contract: the header of the table, or 0 past it. Assumes nothing.
use mathlib.Core.Path.{sym}
use native.Mathlib.Omega.{arith}
use Rattle.setting_rooms.proofs.Formats.{no_header}
use Rattle.setting_rooms.proofs.open_header.Goals as goal

pub returns-else-line-lt-NO_LINE : goal.returns-else-line-lt-NO_LINE
returns-else-line-lt-NO_LINE c = sym (no_header _ (omega (arith, c.if-line-lt-NO_LINE.false)))
