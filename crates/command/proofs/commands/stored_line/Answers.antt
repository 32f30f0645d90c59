-- `command::commands::stored_line` meets its contract: each arm by the definition at that variant. Assumes nothing.
use mathlib.Core.Path.{sym, ap}
use Rattle.command.specs.Commands.{stored_line}
use Rattle.command.proofs.commands.stored_line.Goals as goal

pub returns-in-Instructions : goal.returns-in-Instructions
unfolding stored_line
returns-in-Instructions c = sym (ap stored_line c.in-Instructions.is)

pub returns-in-Floats : goal.returns-in-Floats
unfolding stored_line
returns-in-Floats c = sym (ap stored_line c.in-Floats.is)

pub returns-in-Integers : goal.returns-in-Integers
unfolding stored_line
returns-in-Integers c = sym (ap stored_line c.in-Integers.is)

pub returns-in-Booleans : goal.returns-in-Booleans
unfolding stored_line
returns-in-Booleans c = sym (ap stored_line c.in-Booleans.is)
