-- `command::commands::fields` meets its contract: each arm by the definition at that variant. Assumes nothing.
use mathlib.Core.Path.{sym, ap}
use Rattle.command.specs.Commands.{fields_of, places_of}
use Rattle.command.proofs.commands.fields.Goals as goal

pub returns-in-Domain : goal.returns-in-Domain
unfolding places_of fields_of
returns-in-Domain c = sym (ap places_of c.in-Domain.is)

pub returns-in-Start : goal.returns-in-Start
unfolding places_of fields_of
returns-in-Start c = sym (ap places_of c.in-Start.is)

pub returns-in-Effectless : goal.returns-in-Effectless
unfolding places_of fields_of
returns-in-Effectless c = sym (ap places_of c.in-Effectless.is)

pub returns-in-Store : goal.returns-in-Store
unfolding places_of fields_of
returns-in-Store c = sym (ap places_of c.in-Store.is)

pub returns-in-Input : goal.returns-in-Input
unfolding places_of fields_of
returns-in-Input c = sym (ap places_of c.in-Input.is)

pub returns-in-Output : goal.returns-in-Output
unfolding places_of fields_of
returns-in-Output c = sym (ap places_of c.in-Output.is)

pub returns-in-Conditional : goal.returns-in-Conditional
unfolding places_of fields_of
returns-in-Conditional c = sym (ap places_of c.in-Conditional.is)

pub returns-in-OutputMask : goal.returns-in-OutputMask
unfolding places_of fields_of
returns-in-OutputMask c = sym (ap places_of c.in-OutputMask.is)

pub returns-in-ConditionalMask : goal.returns-in-ConditionalMask
unfolding places_of fields_of
returns-in-ConditionalMask c = sym (ap places_of c.in-ConditionalMask.is)

pub returns-in-Test : goal.returns-in-Test
unfolding places_of fields_of
returns-in-Test c = sym (ap places_of c.in-Test.is)
