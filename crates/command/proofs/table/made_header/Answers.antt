-- `command::table::made_header` meets its contract: a header is made of its line's operation and number of parameters.
-- Assumes nothing.
use native.Mathlib.Omega.{arith}
use Rattle.command.proofs.Headers.{header_rule, count_least, count_most}
use Rattle.command.proofs.table.made_header.Goals as goal

pub overflow_sub-result : goal.overflow_sub-result
overflow_sub-result c = rw c.parameters.ensures (omega (arith, header_rule _ c.requires, count_least _ c.requires, count_most _ c.requires))

pub overflow_mul-result : goal.overflow_mul-result
overflow_mul-result c = rw c.parameters.ensures (omega (arith, header_rule _ c.requires, count_least _ c.requires, count_most _ c.requires))

pub overflow_add-result : goal.overflow_add-result
overflow_add-result c = rw c.parameters.ensures (omega (arith, header_rule _ c.requires, count_least _ c.requires, count_most _ c.requires))

pub overflow_add-result-3 : goal.overflow_add-result-3
overflow_add-result-3 c = rw c.parameters.ensures (omega (arith, header_rule _ c.requires, count_least _ c.requires, count_most _ c.requires))

pub returns : goal.returns
returns c = rw c.parameters.ensures (omega (arith, header_rule _ c.requires, count_least _ c.requires, count_most _ c.requires))
