-- `command::kinds::fault` meets its contract: 4 for the two numbers, 3 for all else. Assumes nothing.
use mathlib.Core.Path.{sym, ap}
use borrow.Enum.Refused.{opened}
use Rattle.command.specs.Kinds.{fault_of}
use Rattle.command.proofs.Words.{fault_other}
use Rattle.command.proofs.kinds.fault.Goals as goal

pub returns-in-InputNumber : goal.returns-in-InputNumber
unfolding fault_of
returns-in-InputNumber c = sym (ap fault_of c.in-InputNumber.is)

pub returns-in-OutputNumber : goal.returns-in-OutputNumber
unfolding fault_of
returns-in-OutputNumber c = sym (ap fault_of c.in-OutputNumber.is)

pub returns-in_default : goal.returns-in_default
unfolding fault_of
returns-in_default c = sym (fault_other c.args.kind (opened c.in_default.in_default-own.keys3))
