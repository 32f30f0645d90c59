-- `command::format::channels` meets its contract: each arm by the definition at that code. Assumes nothing.
use mathlib.Core.Path.{sym, ap}
use Rattle.command.specs.Format.{channels_of}
use Rattle.command.proofs.Windows.{channels_past}
use Rattle.command.proofs.format.channels.Goals as goal

pub returns-in-0 : goal.returns-in-0
unfolding channels_of
returns-in-0 c = sym (ap channels_of c.in-0.is)

pub returns-in-1 : goal.returns-in-1
unfolding channels_of
returns-in-1 c = sym (ap channels_of c.in-1.is)

pub returns-in-2 : goal.returns-in-2
unfolding channels_of
returns-in-2 c = sym (ap channels_of c.in-2.is)

pub returns-in-3 : goal.returns-in-3
unfolding channels_of
returns-in-3 c = sym (ap channels_of c.in-3.is)

pub returns-in-4 : goal.returns-in-4
unfolding channels_of
returns-in-4 c = sym (ap channels_of c.in-4.is)

pub returns-in_default : goal.returns-in_default
returns-in_default c = sym (channels_past _ c.in_default.in_default-own.rest)
