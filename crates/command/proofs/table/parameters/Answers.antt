-- `command::table::parameters` meets its contract: each arm by the definition at that line. Assumes nothing.
use mathlib.Core.Path.{sym, ap}
use native.Mathlib.Omega.{arith}
use Rattle.command.specs.Table.{count_of}
use Rattle.command.proofs.Headers.{count_past, one_parameter_lem}
use Rattle.command.proofs.table.parameters.Goals as goal

pub returns-then-line-gt-SET_COND_TEST : goal.returns-then-line-gt-SET_COND_TEST
returns-then-line-gt-SET_COND_TEST c = sym (count_past _ c.if-line-gt-SET_COND_TEST.true)

pub returns-in-0 : goal.returns-in-0
unfolding count_of
returns-in-0 c = sym (ap count_of c.in-0.is)

pub returns-in-3 : goal.returns-in-3
unfolding count_of
returns-in-3 c = sym (ap count_of c.in-3.is)

pub returns-in-4 : goal.returns-in-4
unfolding count_of
returns-in-4 c = sym (ap count_of c.in-4.is)

pub returns-in-5 : goal.returns-in-5
unfolding count_of
returns-in-5 c = sym (ap count_of c.in-5.is)

pub returns-in-6 : goal.returns-in-6
unfolding count_of
returns-in-6 c = sym (ap count_of c.in-6.is)

pub returns-in-7 : goal.returns-in-7
unfolding count_of
returns-in-7 c = sym (ap count_of c.in-7.is)

pub returns-in-8 : goal.returns-in-8
unfolding count_of
returns-in-8 c = sym (ap count_of c.in-8.is)

pub returns-in-9 : goal.returns-in-9
unfolding count_of
returns-in-9 c = sym (ap count_of c.in-9.is)

pub returns-in_default : goal.returns-in_default
returns-in_default c = sym (one_parameter_lem c.args.line (omega arith) c.in_default.in_default-own.rest)
